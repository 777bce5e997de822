-- A capture without damage comes out with the same frames in the same order, and nothing is left out; captures without
-- octets and without flags; and the live receiver over the same capture hands out the same frames and the same numbers.
--   good_pieces at gs == the pieces that the stretches gs are, where the first begins at the place at
--   closed_of ps      == those of the parts ps that have a flag behind them: all but the last
--   Heard ps rest     == the pieces ps have the frames that were handed out, rest, and its numbers, beside 0
-- Assumes nothing.
use mathlib.Core.Path.{◌≡◌, refl, ap, ap₂, ◌∙◌}
use mathlib.Core.Bool.{true, false}
use mathlib.Core.List.{List, [], ◌∷◌, ◌++◌, append-nil}
use Prim.Native.Nat.{ℕ, ◌+◌, ◌<◌}
use borrow.Author.Tests.{ne_eqb}
use lib.ListN.{length, replicate}
use Rattle.octets.specs.Octets.{holds}
use Rattle.octets.proofs.Words.{holds-tail}
use Rattle.refusal.specs.Answer.{Answer, gives, refuses}
use Rattle.limits.specs.Limits.{is_limit, frame_most}
use Rattle.frame.specs.Line.{flag}
use Rattle.frame.specs.Decode.{decoded}
use Rattle.live.specs.Stretches.{stretches_after, stretches, answers_to, heard_line}
use Rattle.live.proofs.Steps.{other-first}
use Rattle.live.proofs.Decoder.{Flagless, stretch-open, stretch-closed}
use Rattle.salvage.specs.Capture.{parted_after, Piece, pieces_from, all_pieces, piece_if, some_pieces, pieces_in}
use Rattle.salvage.specs.Capture.{kept_if, kept_pieces, entry, listed, frame_if, frames_of, good_of}
use Rattle.capture.specs.Whole.{Good, ReadsEach, goods_of, whole_capture, good_frames}
use Rattle.capture.specs.Whole.{numbers_in, given_if, given_in, refused_if, refused_in}
use Rattle.capture.proofs.Parted.{behind, parted-is, parted-open, pieces_are, some_first}
use Rattle.capture.proofs.Parted.{pieces_behind, behind-nothing, pieces-flag, behind-flags, behind-stretch}
use Rattle.capture.proofs.Decoded.{never-0}

abbrev pub good_pieces : ℕ → List Good → List Piece
good_pieces at [] = []
good_pieces at (g ∷ gs) =
    record { offset = at; octets = g.octets; said = gives g.frame }
    ∷ good_pieces (at + length g.octets + 1 + g.flags) gs

module _ (N : ℕ) where
  behind-goods : (at : ℕ) (gs : List Good) → ReadsEach N gs → pieces_behind N at (goods_of gs) ≡ good_pieces at gs
  unfolding ReadsEach goods_of
  behind-goods at [] r = behind-nothing N at
  behind-goods at (g ∷ gs) r =
      let p : List ℕ = g.octets in
      behind-stretch N at p (replicate g.flags flag ++ goods_of gs) r.0 r.1
      ∙ ap₂ (λ (w : Answer (List ℕ)) (l : List Piece). record { offset = at; octets = p; said = w } ∷ l) r.2
      (behind-flags N g.flags (at + length p + 1) (goods_of gs)
      ∙ behind-goods (at + length p + 1 + g.flags) gs r.3)

  -- every stretch is a piece, and its frame is said of it
  pub whole-pieces : (k : ℕ) (gs : List Good) → ReadsEach N gs → pieces_in N (whole_capture k gs) ≡ good_pieces (1 + k) gs
  unfolding whole_capture
  whole-pieces k gs r =
      pieces-flag N (replicate k flag ++ goods_of gs) ∙ behind-flags N k 1 (goods_of gs) ∙ behind-goods (1 + k) gs r

pub good-listed : (at : ℕ) (gs : List Good) → listed (good_pieces at gs) ≡ []
unfolding listed entry
good-listed at [] = refl
good-listed at (g ∷ gs) = good-listed (at + length g.octets + 1 + g.flags) gs

pub good-frames : (at : ℕ) (gs : List Good) → frames_of (good_pieces at gs) ≡ good_frames gs
unfolding frames_of frame_if good_frames
good-frames at [] = refl
good-frames at (g ∷ gs) =
    ap (λ (l : List (List ℕ)). g.frame ∷ l) (good-frames (at + length g.octets + 1 + g.flags) gs)

pub good-kept : (at : ℕ) (gs : List Good) → kept_pieces (good_pieces at gs) ≡ good_pieces at gs
unfolding kept_pieces kept_if
good-kept at [] = refl
good-kept at (g ∷ gs) =
    ap (λ (l : List Piece). record { offset = at; octets = g.octets; said = gives g.frame } ∷ l)
    (good-kept (at + length g.octets + 1 + g.flags) gs)

-- the same frames, in the same order, and nothing is left out
pub whole-comes-out : (N : ℕ) (k : ℕ) (gs : List Good) → ReadsEach N gs
    → (listed (pieces_in N (whole_capture k gs)) ≡ []) × (frames_of (pieces_in N (whole_capture k gs)) ≡ good_frames gs)
whole-comes-out N k gs r =
    rw (whole-pieces N k gs r) (good-listed (1 + k) gs, good-frames (1 + k) gs)

-- a capture without octets
pub empty-comes-out : (N : ℕ) → pieces_in N [] ≡ []
unfolding pieces_in parted_after all_pieces pieces_from some_pieces piece_if
empty-comes-out N = refl

-- a capture without a flag is one stretch that is left out
pub no-flag-at-all : (N : ℕ) (s : List ℕ) → holds flag s ≡ false → 0 < length s
    → (listed (pieces_in N s) ≡ record { offset = 0; length = length s; number = 0 } ∷ [])
    × (good_of (kept_pieces (pieces_in N s)) ≡ [])
unfolding pieces_in all_pieces pieces_from some_pieces listed entry kept_pieces kept_if good_of
no-flag-at-all N s f h =
    rw (parted-open s f, some_first (record { offset = 0; octets = s; said = refuses 0 }) [] h) (refl, refl)

abbrev closed_of : List (List ℕ) → List (List ℕ)
closed_of [] = []
closed_of (p ∷ []) = []
closed_of (p ∷ q ∷ ps) = p ∷ closed_of (q ∷ ps)

-- the stretches of the live receiver are the parts between two flags
stretches-behind : (p : List ℕ) (ps : List (List ℕ)) → Flagless (p ∷ ps)
    → stretches_after [] (p ++ behind ps) ≡ closed_of (p ∷ ps)
stretches-behind p [] f = ap (stretches_after []) (append-nil p) ∙ stretch-open [] p f.0
stretches-behind p (q ∷ ps) f =
    stretch-closed p (q ++ behind ps) f.0 ∙ ap (λ (l : List (List ℕ)). p ∷ l) (stretches-behind q ps f.1)

stretches-parted : (p : List ℕ) (ps : List (List ℕ)) → Flagless (p ∷ ps) → stretches (p ++ behind ps) ≡ closed_of ps
unfolding stretches
stretches-parted [] [] f = refl
stretches-parted [] (q ∷ ps) f = stretches-behind q ps f.1
stretches-parted (x ∷ p) ps f =
    rw (other-first x p f.0) (stretches-parted p ps (holds-tail flag x p f.0, f.1))

abbrev Heard : List Piece → List (Answer (List ℕ)) → Type 0
Heard ps rest = (frames_of ps ≡ given_in rest) × (numbers_in (listed ps) ≡ refused_in rest)

-- a piece of which 0 is said does not count
heard-edge : (a : Piece) (ps : List Piece) (rest : List (Answer (List ℕ))) → a.said ≡ refuses 0 → Heard (some_pieces ps) rest
    → Heard (some_pieces (a ∷ ps)) rest
unfolding some_pieces piece_if frames_of frame_if listed entry numbers_in
heard-edge a ps rest e less = go a.octets
  where
    go : (p : List ℕ) → Heard (piece_if a p (some_pieces ps)) rest
    go [] = less
    go (x ∷ p) = rw e less

-- one of which anything else is said does
heard-more : (a : Piece) (ps : List Piece) (w : Answer (List ℕ)) (rest : List (Answer (List ℕ))) → a.said ≡ w
    → (w ≡ refuses 0 → ⊥) → Heard ps rest → Heard (a ∷ ps) (w ∷ rest)
unfolding frames_of frame_if listed entry numbers_in given_in given_if refused_in refused_if
heard-more a ps (gives b) rest e n less = rw e (ap (λ (l : List (List ℕ)). b ∷ l) less.0, less.1)
heard-more a ps (refuses k) rest e n less =
    rw (e, ne_eqb k 0 (λ z. n (ap refuses z))) (less.0, ap (λ (l : List ℕ). k ∷ l) less.1)

module _ (N : ℕ) (l : is_limit N ≡ true) where
  heard-from : (at : ℕ) (ps : List (List ℕ)) → Heard (some_pieces (pieces_from N at ps)) (answers_to N (closed_of ps))
  unfolding pieces_from some_pieces piece_if frames_of listed numbers_in given_in refused_in answers_to
  heard-from at [] = (refl, refl)
  heard-from at (p ∷ []) = heard-edge (record { offset = at; octets = p; said = refuses 0 }) [] [] refl (refl, refl)
  heard-from at ([] ∷ q ∷ ps) = heard-from (at + 0 + 1) (q ∷ ps)
  heard-from at ((x ∷ p) ∷ q ∷ ps) =
      let w : Answer (List ℕ) = decoded N (x ∷ p) (frame_most N) in
      let next : ℕ = at + length (x ∷ p) + 1 in
      heard-more (record { offset = at; octets = x ∷ p; said = w }) (some_pieces (pieces_from N next (q ∷ ps))) w
      (answers_to N (closed_of (q ∷ ps))) refl (never-0 N (x ∷ p) l) (heard-from next (q ∷ ps))

-- what the live receiver hands out over the capture: the frames that are kept, and the numbers of what is left out between
-- two flags
pub through-the-receiver : (N : ℕ) (s : List ℕ) → is_limit N ≡ true
    → (frames_of (pieces_in N s) ≡ given_in (heard_line N s))
    × (numbers_in (listed (pieces_in N s)) ≡ refused_in (heard_line N s))
unfolding heard_line all_pieces
through-the-receiver N s l =
    let parts = parted-is s in
    let p : List ℕ = parts.first in
    let ps : List (List ℕ) = parts.others in
    let same : stretches s ≡ closed_of ps = ap stretches parts.whole ∙ stretches-parted p ps parts.flagless in
    rw (pieces_are N s, same)
    (heard-edge (record { offset = 0; octets = p; said = refuses 0 }) (pieces_from N (length p + 1) ps)
    (answers_to N (closed_of ps)) refl (heard-from N l (length p + 1) ps))
