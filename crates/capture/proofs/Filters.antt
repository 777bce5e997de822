-- Those of some pieces that pass a test: which they are, how many octets they have, and what is listed of them.
--   is_given w     == the answer w is a frame
--   has_octets a, is_kept a, is_left a == the piece a has octets, is kept, is left out
--   picked t ps    == those of the pieces ps that pass the test t
-- Assumes nothing.
use mathlib.Core.Path.{◌≡◌, refl, sym, ap, ◌∙◌}
use mathlib.Core.Bool.{Bool, true, false, cond, not}
use mathlib.Core.List.{List, [], ◌∷◌}
use mathlib.Core.Logic.{◌↔◌, inl, inr, ⊎_elim}
use Prim.Native.Nat.{ℕ, suc, ◌+◌, ◌<◌}
use native.Mathlib.Nat.{not-suc-le-zero}
use native.Mathlib.Omega.{arith}
use lib.ListN.{length}
use Rattle.octets.proofs.Words.{true-not-false}
use Rattle.refusal.specs.Answer.{Answer, gives, refuses}
use Rattle.live.proofs.Decoder.{some}
use Rattle.salvage.specs.Capture.{Piece, piece_if, some_pieces, kept_if, kept_pieces, left_if, left_pieces}
use Rattle.salvage.specs.Capture.{entry, listed, frame_if, frames_of, octet_count}
use Rattle.capture.specs.Places.{Among}

abbrev pub is_given : Answer (List ℕ) → Bool
is_given (gives b) = true
is_given (refuses k) = false

abbrev pub has_octets : Piece → Bool
has_octets a = some a.octets

abbrev pub is_kept : Piece → Bool
is_kept a = is_given a.said

abbrev pub is_left : Piece → Bool
is_left a = not (is_given a.said)

abbrev pub picked : (Piece → Bool) → List Piece → List Piece
picked t [] = []
picked t (a ∷ ps) = cond (t a) (a ∷ picked t ps) (picked t ps)

pub some-picked : (ps : List Piece) → some_pieces ps ≡ picked has_octets ps
unfolding some_pieces piece_if
some-picked [] = refl
some-picked (a ∷ ps) = go a.octets (some-picked ps)
  where
    go : (p : List ℕ) → some_pieces ps ≡ picked has_octets ps
        → piece_if a p (some_pieces ps) ≡ cond (some p) (a ∷ picked has_octets ps) (picked has_octets ps)
    go [] less = less
    go (x ∷ p) less = ap (λ (l : List Piece). a ∷ l) less

pub kept-picked : (ps : List Piece) → kept_pieces ps ≡ picked is_kept ps
unfolding kept_pieces kept_if
kept-picked [] = refl
kept-picked (a ∷ ps) = go a.said (kept-picked ps)
  where
    go : (w : Answer (List ℕ)) → kept_pieces ps ≡ picked is_kept ps
        → kept_if a w (kept_pieces ps) ≡ cond (is_given w) (a ∷ picked is_kept ps) (picked is_kept ps)
    go (gives b) less = ap (λ (l : List Piece). a ∷ l) less
    go (refuses k) less = less

pub left-picked : (ps : List Piece) → left_pieces ps ≡ picked is_left ps
unfolding left_pieces left_if
left-picked [] = refl
left-picked (a ∷ ps) = go a.said (left-picked ps)
  where
    go : (w : Answer (List ℕ)) → left_pieces ps ≡ picked is_left ps
        → left_if a w (left_pieces ps) ≡ cond (not (is_given w)) (a ∷ picked is_left ps) (picked is_left ps)
    go (gives b) less = less
    go (refuses k) less = ap (λ (l : List Piece). a ∷ l) less

-- a piece is picked exactly if it is one of them and passes
pub among-picked : (t : Piece → Bool) (ps : List Piece) (a : Piece)
    → Among a (picked t ps) ↔ Among a ps × (t a ≡ true)
among-picked t [] a = (λ m. absurd m, λ w. w.0)
among-picked t (c ∷ ps) a = go (t c) refl (among-picked t ps a)
  where
    go : (w : Bool) → t c ≡ w → (Among a (picked t ps) ↔ Among a ps × (t a ≡ true))
        → Among a (cond w (c ∷ picked t ps) (picked t ps)) ↔ Among a (c ∷ ps) × (t a ≡ true)
    go true e less = (
      ⊎_elim (λ q. (inl q, ap t q ∙ e)) (λ m. let w = less.0 m in (inr w.0, w.1)),
      λ w. ⊎_elim inl (λ m. inr (less.1 (m, w.1))) w.0,
    )
    go false e less = (
      λ m. let w = less.0 m in (inr w.0, w.1),
      λ w. ⊎_elim (λ q. absurd (true-not-false (sym w.1 ∙ ap t q ∙ e))) (λ m. less.1 (m, w.1)) w.0,
    )

-- the tests, in words
pub has-octets : (p : List ℕ) → some p ≡ true ↔ 0 < length p
has-octets [] = (λ e. absurd (true-not-false (sym e)), λ h. absurd (not-suc-le-zero h))
has-octets (x ∷ p) = (λ e. omega arith, λ h. refl)

pub is-given : (w : Answer (List ℕ)) → is_given w ≡ true → (b : List ℕ) × (w ≡ gives b)
is-given (gives b) e = (b, refl)
is-given (refuses k) e = absurd (true-not-false (sym e))

pub is-refused : (w : Answer (List ℕ)) → not (is_given w) ≡ true → (k : ℕ) × (w ≡ refuses k)
is-refused (gives b) e = absurd (true-not-false (sym e))
is-refused (refuses k) e = (k, refl)

module _ (ps : List Piece) (a : Piece) where
  pub among-some : Among a (some_pieces ps) ↔ Among a ps × (0 < length a.octets)
  among-some =
      rw (some-picked ps) (
        λ m. let w = (among-picked has_octets ps a).0 m in (w.0, (has-octets a.octets).0 w.1),
        λ w. (among-picked has_octets ps a).1 (w.0, (has-octets a.octets).1 w.1),
      )

  pub among-kept : Among a (kept_pieces ps) ↔ Among a ps × (is_kept a ≡ true)
  among-kept = rw (kept-picked ps) (among-picked is_kept ps a)

  pub among-left : Among a (left_pieces ps) ↔ Among a ps × (is_left a ≡ true)
  among-left = rw (left-picked ps) (among-picked is_left ps a)

-- the octets of those that pass, and of those that do not, are all of them
count-picked : (t : Piece → Bool) (ps : List Piece)
    → octet_count (picked t ps) + octet_count (picked (λ a. not (t a)) ps) ≡ octet_count ps
unfolding octet_count
count-picked t [] = refl
count-picked t (a ∷ ps) = go (t a) (count-picked t ps)
  where
    go : (w : Bool) → octet_count (picked t ps) + octet_count (picked (λ a. not (t a)) ps) ≡ octet_count ps
        → octet_count (cond w (a ∷ picked t ps) (picked t ps))
        + octet_count (cond (not w) (a ∷ picked (λ a. not (t a)) ps) (picked (λ a. not (t a)) ps))
        ≡ length a.octets + octet_count ps
    go true less = omega (arith, less)
    go false less = omega (arith, less)

pub count-both : (ps : List Piece) → octet_count (kept_pieces ps) + octet_count (left_pieces ps) ≡ octet_count ps
count-both ps = rw (kept-picked ps, left-picked ps) (count-picked is_kept ps)

pub count-some : (ps : List Piece) → octet_count (some_pieces ps) ≡ octet_count ps
unfolding octet_count some_pieces piece_if
count-some [] = refl
count-some (a ∷ ps) = go a.octets refl (count-some ps)
  where
    go : (p : List ℕ) → a.octets ≡ p → octet_count (some_pieces ps) ≡ octet_count ps
        → octet_count (piece_if a p (some_pieces ps)) ≡ length p + octet_count ps
    go [] e less = omega (arith, less)
    go (x ∷ p) e less = rw (e, less)

-- what is listed, and which frames there are, goes by those that are left out and those that are kept
pub listed-left : (ps : List Piece) → listed ps ≡ listed (left_pieces ps)
unfolding listed entry left_pieces left_if
listed-left [] = refl
listed-left (a ∷ ps) = go a.said refl (listed-left ps)
  where
    go : (w : Answer (List ℕ)) → a.said ≡ w → listed ps ≡ listed (left_pieces ps)
        → entry a w (listed ps) ≡ listed (left_if a w (left_pieces ps))
    go (gives b) e less = less
    go (refuses k) e less = rw (e, less)

pub frames-kept : (ps : List Piece) → frames_of ps ≡ frames_of (kept_pieces ps)
unfolding frames_of frame_if kept_pieces kept_if
frames-kept [] = refl
frames-kept (a ∷ ps) = go a.said refl (frames-kept ps)
  where
    go : (w : Answer (List ℕ)) → a.said ≡ w → frames_of ps ≡ frames_of (kept_pieces ps)
        → frame_if w (frames_of ps) ≡ frames_of (kept_if a w (kept_pieces ps))
    go (gives b) e less = rw (e, less)
    go (refuses k) e less = less

pub listed-long : (ps : List Piece) → length (listed ps) ≡ length (left_pieces ps)
unfolding listed entry left_pieces left_if
listed-long [] = refl
listed-long (a ∷ ps) = go a.said (listed-long ps)
  where
    go : (w : Answer (List ℕ)) → length (listed ps) ≡ length (left_pieces ps)
        → length (entry a w (listed ps)) ≡ length (left_if a w (left_pieces ps))
    go (gives b) less = less
    go (refuses k) less = ap suc less

pub frames-long : (ps : List Piece) → length (frames_of ps) ≡ length (kept_pieces ps)
unfolding frames_of frame_if kept_pieces kept_if
frames-long [] = refl
frames-long (a ∷ ps) = go a.said (frames-long ps)
  where
    go : (w : Answer (List ℕ)) → length (frames_of ps) ≡ length (kept_pieces ps)
        → length (frame_if w (frames_of ps)) ≡ length (kept_if a w (kept_pieces ps))
    go (gives b) less = ap suc less
    go (refuses k) less = less
