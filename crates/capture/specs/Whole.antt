-- A capture without damage. 02 (vii): "A capture without damage comes out with the same frames in the same order".
--   Good           == a stretch and the flags behind it, one and more: its octets, its frame, how many flags beyond one
--   ReadsEach N gs == each of gs has octets, no flag among them, and the decoder with the limit N reads its frame
--   goods_of gs    == the stretches gs, with their flags
--   whole_capture k gs == k flags beyond one, and the stretches gs behind them
--   good_frames gs == their frames
--   numbers_in es  == the numbers of the list es that are not 0
--   given_in as    == the frames among what was handed out; refused_in as == the numbers among it
-- Assumes nothing.
use Rattle.std.specs.Prelude.{◌≡◌, false, cond, List, [], ◌∷◌, ◌++◌, ℕ, suc, ◌<◌, eqb, length, replicate}
use Rattle.octets.specs.Octets.{holds}
use Rattle.refusal.specs.Answer.{Answer, gives, refuses}
use Rattle.limits.specs.Limits.{frame_most}
use Rattle.frame.specs.Line.{flag}
use Rattle.frame.specs.Decode.{decoded}
use Rattle.salvage.specs.declared.Stretch.{Stretch}

pub record Good : Type 0 where
  pub octets : List ℕ
  pub frame : List ℕ
  pub flags : ℕ

unfoldable pub ReadsEach : ℕ → List Good → Type 0
ReadsEach N [] = Unit {0}
ReadsEach N (g ∷ gs) =
    (0 < length g.octets) × (holds flag g.octets ≡ false)
    × (decoded N g.octets (frame_most N) ≡ gives g.frame) × ReadsEach N gs

unfoldable pub goods_of : List Good → List ℕ
goods_of [] = []
goods_of (g ∷ gs) = g.octets ++ (replicate (suc g.flags) flag ++ goods_of gs)

unfoldable pub whole_capture : ℕ → List Good → List ℕ
whole_capture k gs = replicate (suc k) flag ++ goods_of gs

unfoldable pub good_frames : List Good → List (List ℕ)
good_frames [] = []
good_frames (g ∷ gs) = g.frame ∷ good_frames gs

unfoldable pub numbers_in : List Stretch → List ℕ
numbers_in [] = []
numbers_in (e ∷ es) = cond (eqb e.number 0) (numbers_in es) (e.number ∷ numbers_in es)

unfoldable pub given_if : Answer (List ℕ) → List (List ℕ) → List (List ℕ)
given_if (gives b) bs = b ∷ bs
given_if (refuses k) bs = bs

unfoldable pub given_in : List (Answer (List ℕ)) → List (List ℕ)
given_in [] = []
given_in (a ∷ rest) = given_if a (given_in rest)

unfoldable pub refused_if : Answer (List ℕ) → List ℕ → List ℕ
refused_if (gives b) ks = ks
refused_if (refuses k) ks = k ∷ ks

unfoldable pub refused_in : List (Answer (List ℕ)) → List ℕ
refused_in [] = []
refused_in (a ∷ rest) = refused_if a (refused_in rest)
