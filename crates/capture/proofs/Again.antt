-- A salvage of what a salvage wrote: with a limit that is no smaller the same frames come out again, nothing is left out,
-- and the same octets are written.
--   goods_in ps == the pieces ps that are kept, as stretches with one flag behind each
--   Read M a    == where the piece a is kept, it has octets, no flag among them, and is read with the limit M as its frame
--   opened t    == t with a flag before it, where it has octets
-- Assumes nothing.
use mathlib.Core.Path.{◌≡◌, refl, sym, ap, ◌∙◌}
use mathlib.Core.Bool.{true, false}
use mathlib.Core.List.{List, [], ◌∷◌, ◌++◌}
use mathlib.Core.Logic.{inl, inr}
use Prim.Native.Nat.{ℕ, ◌+◌, ◌<◌, ◌≤◌}
use lib.ListN.{length, replicate}
use Rattle.octets.specs.Octets.{holds}
use Rattle.refusal.specs.Answer.{Answer, gives, refuses}
use Rattle.refusal.proofs.Answers.{gives_same}
use Rattle.limits.specs.Limits.{is_limit, frame_most}
use Rattle.frame.specs.Line.{flag}
use Rattle.frame.specs.Decode.{decoded}
use Rattle.salvage.specs.Capture.{Piece, pieces_in, kept_if, kept_pieces, listed, frame_if, frames_of, flag_behind, good_of}
use Rattle.capture.specs.Places.{Among}
use Rattle.capture.specs.Whole.{Good, ReadsEach, goods_of, whole_capture, good_frames}
use Rattle.capture.proofs.Decoded.{reads_more}
use Rattle.capture.proofs.Filters.{is_given, among-kept}
use Rattle.capture.proofs.Places.{piece-octets, kept-is-decoded}
use Rattle.capture.proofs.Whole.{good_pieces, whole-pieces, good-listed, good-frames, good-kept, empty-comes-out}

abbrev pub good_if : Piece → Answer (List ℕ) → List Good → List Good
good_if a (gives b) gs = record { octets = a.octets; frame = b; flags = 0 } ∷ gs
good_if a (refuses k) gs = gs

abbrev pub goods_in : List Piece → List Good
goods_in [] = []
goods_in (a ∷ ps) = good_if a a.said (goods_in ps)

-- they are written as the pieces that are kept, and have their frames
goods-written : (ps : List Piece) → flag_behind (kept_pieces ps) ≡ goods_of (goods_in ps)
unfolding flag_behind kept_pieces kept_if goods_of
goods-written [] = refl
goods-written (a ∷ ps) = go a.said (goods-written ps)
  where
    go : (w : Answer (List ℕ)) → flag_behind (kept_pieces ps) ≡ goods_of (goods_in ps)
        → flag_behind (kept_if a w (kept_pieces ps)) ≡ goods_of (good_if a w (goods_in ps))
    go (gives b) less = ap (λ (l : List ℕ). a.octets ++ flag ∷ l) less
    go (refuses k) less = less

goods-frames : (ps : List Piece) → frames_of ps ≡ good_frames (goods_in ps)
unfolding frames_of frame_if good_frames
goods-frames [] = refl
goods-frames (a ∷ ps) = go a.said (goods-frames ps)
  where
    go : (w : Answer (List ℕ)) → frames_of ps ≡ good_frames (goods_in ps)
        → frame_if w (frames_of ps) ≡ good_frames (good_if a w (goods_in ps))
    go (gives b) less = ap (λ (l : List (List ℕ)). b ∷ l) less
    go (refuses k) less = less

-- and read as pieces again, wherever they stand, they are written the same
goods-again : (at : ℕ) (ps : List Piece) → flag_behind (good_pieces at (goods_in ps)) ≡ goods_of (goods_in ps)
unfolding flag_behind goods_of
goods-again at [] = refl
goods-again at (a ∷ ps) = go a.said (λ n. goods-again n ps)
  where
    go : (w : Answer (List ℕ)) → ((n : ℕ) → flag_behind (good_pieces n (goods_in ps)) ≡ goods_of (goods_in ps))
        → flag_behind (good_pieces at (good_if a w (goods_in ps))) ≡ goods_of (good_if a w (goods_in ps))
    go (gives b) less = ap (λ (l : List ℕ). a.octets ++ flag ∷ l) (less (at + length a.octets + 1 + 0))
    go (refuses k) less = less at

abbrev Read : ℕ → Piece → Type 0
Read M a =
    (b : List ℕ) → a.said ≡ gives b
    → (0 < length a.octets) × (holds flag a.octets ≡ false) × (decoded M a.octets (frame_most M) ≡ gives b)

goods-read : (M : ℕ) (ps : List Piece) → ((a : Piece) → Among a ps → Read M a) → ReadsEach M (goods_in ps)
unfolding ReadsEach
goods-read M [] each = tt
goods-read M (a ∷ ps) each = go a.said refl (goods-read M ps (λ c m. each c (inr m)))
  where
    go : (w : Answer (List ℕ)) → a.said ≡ w → ReadsEach M (goods_in ps) → ReadsEach M (good_if a w (goods_in ps))
    go (gives b) e less =
        let w = each a (inl refl) b e in (w.0, w.1, w.2, less)
    go (refuses k) e less = less

-- every piece that is kept is read with a limit that is no smaller
pieces-read : (N M : ℕ) → is_limit M ≡ true → N ≤ M → (s : List ℕ) (a : Piece) → Among a (pieces_in N s) → Read M a
pieces-read N M l h s a m b e =
    let w = kept-is-decoded N s a ((among-kept (pieces_in N s) a).1 (m, ap is_given e)) in
    let same : w.0 ≡ b = gives_same (sym w.1 ∙ e) in
    let octets = piece-octets N s a m in
    (octets.0, octets.1, reads_more N a.octets M b l h (w.2 ∙ ap gives same))

abbrev pub opened : List ℕ → List ℕ
opened [] = []
opened (x ∷ t) = flag ∷ x ∷ t

opened_some : (p t : List ℕ) → opened (p ++ flag ∷ t) ≡ flag ∷ (p ++ flag ∷ t)
opened_some [] t = refl
opened_some (x ∷ p) t = refl

good-opened : (ps : List Piece) → good_of ps ≡ opened (flag_behind ps)
unfolding good_of flag_behind
good-opened [] = refl
good-opened (a ∷ ps) = sym (opened_some a.octets (flag_behind ps))

-- what is written is a capture without damage, or nothing
pub good-is-whole : (ps : List Piece) → good_of (kept_pieces ps) ≡ opened (goods_of (goods_in ps))
good-is-whole ps = good-opened (kept_pieces ps) ∙ ap opened (goods-written ps)

pub opened-whole : (g : Good) (gs : List Good) → opened (goods_of (g ∷ gs)) ≡ whole_capture 0 (g ∷ gs)
unfolding goods_of whole_capture
opened-whole g gs = opened_some g.octets (replicate g.flags flag ++ goods_of gs)

opened-pieces : (M : ℕ) (gs : List Good) → ReadsEach M gs → pieces_in M (opened (goods_of gs)) ≡ good_pieces 1 gs
unfolding goods_of
opened-pieces M [] r = empty-comes-out M
opened-pieces M (g ∷ gs) r = ap (pieces_in M) (opened-whole g gs) ∙ whole-pieces M 0 (g ∷ gs) r

-- the same frames come out of it, nothing is left out, and it is written the same
pub good-again : (N M : ℕ) → is_limit N ≡ true → is_limit M ≡ true → N ≤ M → (s : List ℕ)
    → let G : List ℕ = good_of (kept_pieces (pieces_in N s)) in
    (frames_of (pieces_in M G) ≡ frames_of (pieces_in N s)) × (listed (pieces_in M G) ≡ [])
    × (good_of (kept_pieces (pieces_in M G)) ≡ G)
good-again N M n m h s =
    let ps : List Piece = pieces_in N s in
    let gs : List Good = goods_in ps in
    let again = opened-pieces M gs (goods-read M ps (pieces-read N M m h s)) in
    rw (good-is-whole ps, again) (
      good-frames 1 gs ∙ sym (goods-frames ps),
      good-listed 1 gs,
      ap good_of (good-kept 1 gs) ∙ good-opened (good_pieces 1 gs) ∙ ap opened (goods-again 1 ps),
    )
