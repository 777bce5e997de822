-- A capture and its parts: what stands between its flags, in order, and the pieces that are made of them.
--   behind ps      == the parts ps with a flag before each
--   Parted s       == the parts of the capture s: the first one, and the others
--   said_of N p ps == what is said of a part p behind a flag, where the parts ps stand behind it
--   pieces_behind N at s == the pieces of the octets s that have octets, where a flag stands before s, and s begins at
--                     the place at of the capture
-- Assumes nothing.
use mathlib.Core.Path.{◌≡◌, refl, sym, ap, ap₂, ◌∙◌}
use mathlib.Core.Bool.{Bool, true, false}
use mathlib.Core.List.{List, [], ◌∷◌, ◌++◌, append_assoc, append-nil}
use Prim.Native.Nat.{ℕ, zero, suc, ◌+◌, ◌<◌}
use native.Mathlib.Nat.{add-zero, not-suc-le-zero}
use native.Mathlib.Omega.{arith}
use borrow.Author.Tests.{eqb-true, eqb-false}
use lib.Dec.{eqb}
use lib.ListN.{length, replicate}
use Rattle.octets.specs.Octets.{holds}
use Rattle.octets.proofs.Words.{holds-tail, holds_not}
use Rattle.refusal.specs.Answer.{Answer, refuses}
use Rattle.limits.specs.Limits.{frame_most}
use Rattle.frame.specs.Line.{flag}
use Rattle.frame.specs.Decode.{decoded}
use Rattle.live.proofs.Steps.{other-first}
use Rattle.live.proofs.Decoder.{Flagless}
use Rattle.salvage.specs.Capture.{parted_after, parted, Piece, pieces_from, all_pieces, piece_if, some_pieces, pieces_in}

abbrev pub behind : List (List ℕ) → List ℕ
behind [] = []
behind (p ∷ ps) = flag ∷ (p ++ behind ps)

pub record Parted (s : List ℕ) : Type 0 where
  pub first : List ℕ
  pub others : List (List ℕ)
  pub after : (p : List ℕ) → parted_after p s ≡ (p ++ first) ∷ others
  pub whole : s ≡ first ++ behind others
  pub flagless : Flagless (first ∷ others)

-- parts that are put together again, with a flag between two of them, are the capture
pub parted-is : (s : List ℕ) → Parted s
unfolding parted_after holds
parted-is [] = record { first = []; others = []; after = λ p. rw append-nil; whole = refl; flagless = (refl, tt) }
parted-is (x ∷ xs) = go (eqb x flag) refl (parted-is xs)
  where
    go : (t : Bool) → eqb x flag ≡ t → Parted xs → Parted (x ∷ xs)
    go true e less =
        record {
          first = [];
          others = less.first ∷ less.others;
          after = λ p. rw (e, append-nil, less.after []);
          whole = ap₂ ◌∷◌ (eqb-true x flag e) less.whole;
          flagless = (refl, less.flagless);
        }
    go false e less =
        record {
          first = x ∷ less.first;
          others = less.others;
          after = λ p. rw (e, less.after (p ++ x ∷ []), append_assoc);
          whole = ap (λ (l : List ℕ). x ∷ l) less.whole;
          flagless = (holds_not flag x less.first (eqb-false x flag e) less.flagless.0, less.flagless.1);
        }

pub parted-are : (s : List ℕ) → parted s ≡ (parted-is s).first ∷ (parted-is s).others
parted-are s = (parted-is s).after []

-- octets without a flag belong to the part
parted-grows : (p q s : List ℕ) → holds flag q ≡ false → parted_after p (q ++ s) ≡ parted_after (p ++ q) s
unfolding parted_after
parted-grows p [] s f = rw append-nil
parted-grows p (x ∷ q) s f =
    rw (other-first x q f) (parted-grows (p ++ x ∷ []) q s (holds-tail flag x q f) ∙ rw append_assoc)

pub parted-open : (p : List ℕ) → holds flag p ≡ false → parted p ≡ p ∷ []
unfolding parted_after
parted-open p f = ap parted (sym (append-nil p)) ∙ parted-grows [] p [] f

pub parted-closed : (p s : List ℕ) → holds flag p ≡ false → parted (p ++ flag ∷ s) ≡ p ∷ parted s
unfolding parted_after
parted-closed p s f = parted-grows [] p (flag ∷ s) f

abbrev pub said_of : ℕ → List ℕ → List (List ℕ) → Answer (List ℕ)
said_of N p [] = refuses 0
said_of N p (q ∷ ps) = decoded N p (frame_most N)

pub from_cons : (N at : ℕ) (p : List ℕ) (ps : List (List ℕ))
    → pieces_from N at (p ∷ ps)
    ≡ record { offset = at; octets = p; said = said_of N p ps } ∷ pieces_from N (at + length p + 1) ps
unfolding pieces_from
from_cons N at p [] = refl
from_cons N at p (q ∷ ps) = refl

-- the pieces of a capture, by its parts
pub pieces_are : (N : ℕ) (s : List ℕ) → let parts = parted-is s in
    pieces_in N s ≡ some_pieces (all_pieces N (parts.first ∷ parts.others))
unfolding pieces_in
pieces_are N s = ap (λ (ps : List (List ℕ)). some_pieces (all_pieces N ps)) (parted-are s)

abbrev pub pieces_behind : ℕ → ℕ → List ℕ → List Piece
pieces_behind N at s = some_pieces (pieces_from N at (parted s))

-- a part that has octets is a piece
pub some_first : (a : Piece) (rest : List Piece) → 0 < length a.octets → some_pieces (a ∷ rest) ≡ a ∷ some_pieces rest
unfolding some_pieces piece_if
some_first a rest h = go a.octets h
  where
    go : (p : List ℕ) → 0 < length p → piece_if a p (some_pieces rest) ≡ a ∷ some_pieces rest
    go [] h = absurd (not-suc-le-zero h)
    go (x ∷ p) h = refl

module _ (N : ℕ) where
  pub behind-nothing : (at : ℕ) → pieces_behind N at [] ≡ []
  unfolding parted_after pieces_from some_pieces piece_if
  behind-nothing at = refl

  pub pieces-flag : (s : List ℕ) → pieces_in N (flag ∷ s) ≡ pieces_behind N 1 s
  unfolding pieces_in parted_after all_pieces some_pieces piece_if
  pieces-flag s = refl

  -- a flag, and flags side by side
  pub behind-flag : (at : ℕ) (s : List ℕ) → pieces_behind N at (flag ∷ s) ≡ pieces_behind N (at + 1) s
  unfolding parted_after some_pieces piece_if
  behind-flag at s =
      rw (from_cons N at [] (parted s)) (ap (λ (n : ℕ). pieces_behind N (n + 1) s) (add-zero at))

  pub behind-flags : (n at : ℕ) (s : List ℕ) → pieces_behind N at (replicate n flag ++ s) ≡ pieces_behind N (at + n) s
  behind-flags zero at s = ap (λ (m : ℕ). pieces_behind N m s) (sym (add-zero at))
  behind-flags (suc n) at s =
      let places : at + 1 + n ≡ at + suc n = omega arith in
      behind-flag at (replicate n flag ++ s) ∙ behind-flags n (at + 1) s ∙ ap (λ (m : ℕ). pieces_behind N m s) places

  -- a stretch, up to the flag behind it
  pub behind-stretch : (at : ℕ) (p s : List ℕ) → 0 < length p → holds flag p ≡ false
      → pieces_behind N at (p ++ flag ∷ s)
      ≡ record { offset = at; octets = p; said = decoded N p (frame_most N) } ∷ pieces_behind N (at + length p + 1) s
  behind-stretch at p s h f =
      rw (parted-closed p s f, from_cons N at p (parted s), some_first, parted-are)
