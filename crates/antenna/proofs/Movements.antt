-- What starts a movement and what makes a result that waits. Assumes nothing.
use mathlib.Core.Path.{◌≡◌, refl, sym, ap, ◌∙◌}
use mathlib.Core.Bool.{Bool, true, false, not}
use mathlib.Core.Logic.Iff
use mathlib.Core.Logic.{◌↔◌}
use Prim.Native.Nat.{ℕ}
use borrow.Author.Tests.{not-true, not-false}
use Rattle.std.specs.Prelude.{None, Some, Ok}
use Rattle.octets.specs.Octets.{holds}
use Rattle.octets.proofs.Words.{true-not-false}
use Rattle.refusal.specs.Answer.{gives, refuses, Clear, numbers_of}
use Rattle.refusal.proofs.Exactly.{TestsFor, exactly-tests, exactly-given}
use Rattle.antenna.specs.declared.Angle.{Angle}
use Rattle.antenna.specs.declared.Antenna.{Antenna}
use Rattle.antenna.specs.declared.Motion.{Motion}
use Rattle.antenna.specs.declared.Motion.TheVariants.{Still, Moving, Owing, Stopped}
use Rattle.antenna.specs.Angles.{same_as}
use Rattle.antenna.specs.Motions.{in_range, busy_of, owes_of, waiting_of, unowed_of, moves, drive_rows, aimed_at}
use Rattle.antenna.specs.Motions.{started, runs}
use Rattle.antenna.specs.Events.{rested_of, with_alarm}
use Rattle.antenna.proofs.Angles.{same-exactly}

module _ (n : Antenna) (t : Angle) where
  by_rows : (k : ℕ) → aimed_at n t ≡ refuses k ↔ TestsFor k (drive_rows (busy_of n.motion) (not (in_range n t)))
  unfolding aimed_at
  by_rows k = exactly-tests k _ (moves n (Owing t))

  -- "busy, 0x05"
  pub aim-05 : aimed_at n t ≡ refuses 0x05 ↔ busy_of n.motion ≡ true
  unfolding TestsFor numbers_of holds
  aim-05 = by_rows 0x05

  -- "out of range, 0x13"
  pub aim-13 : aimed_at n t ≡ refuses 0x13 ↔ (busy_of n.motion ≡ false) × (in_range n t ≡ false)
  unfolding TestsFor numbers_of holds
  aim-13 = Iff.trans (by_rows 0x13) (λ g. (g.0, not-true _ g.1), λ w. (w.0, ap not w.1))

  -- a movement starts exactly where nothing moves or waits and the tilt asked is in range
  pub starts : (m : Antenna) → aimed_at n t ≡ gives m
      ↔ (busy_of n.motion ≡ false) × (in_range n t ≡ true) × (moves n (Owing t) ≡ m)
  unfolding aimed_at Clear
  starts m =
      Iff.trans (exactly-given _ (moves n (Owing t)) m)
      (λ g. (g.0.0, not-false _ g.0.1.0, g.1), λ w. ((w.0, (ap not w.1, tt)), w.2))

result-same : (a b : Bool) → Some a ≡ Some b → b ≡ a
result-same a b e = cc

-- a result waits after a stop exactly where one was owed for a running movement, or waited before; and it is success
-- exactly if the stop is at the tilt asked
pub stop-owing : (asked t : Angle) → waiting_of (rested_of (Owing asked) t) ≡ Some (same_as asked t)
unfolding rested_of waiting_of
stop-owing asked t = refl

pub stop-reached : (asked t : Angle) → waiting_of (rested_of (Owing asked) t) ≡ Some true ↔ asked ≡ t
stop-reached asked t = (
  λ e. (same-exactly asked t).0 (result-same true (same_as asked t) (sym e ∙ stop-owing asked t)),
  λ e. stop-owing asked t ∙ ap Some ((same-exactly asked t).1 e),
)

pub stop-moving : (t : Angle) → waiting_of (rested_of Moving t) ≡ None
unfolding rested_of waiting_of
stop-moving t = refl

-- nothing is owed once what is owed is dropped, and what runs goes on running
pub unowed-owes : (m : Motion) → owes_of (unowed_of m) ≡ false
unowed-owes Still = refl
unowed-owes Moving = refl
unowed-owes (Owing asked) = refl
unowed-owes (Stopped reached) = refl

pub unowed-twice : (m : Motion) → unowed_of (unowed_of m) ≡ unowed_of m
unowed-twice Still = refl
unowed-twice Moving = refl
unowed-twice (Owing asked) = refl
unowed-twice (Stopped reached) = refl

pub unowed-runs : (m : Motion) → runs (unowed_of m) ≡ runs m
unowed-runs Still = refl
unowed-runs Moving = refl
unowed-runs (Owing asked) = refl
unowed-runs (Stopped reached) = refl

-- what runs or waits is busy, and nothing else
pub busy-runs : (m : Motion) → runs m ≡ true → busy_of m ≡ true
busy-runs Still e = e
busy-runs Moving e = refl
busy-runs (Owing asked) e = refl
busy-runs (Stopped reached) e = absurd (true-not-false (sym e))

pub idle : (m : Motion) → busy_of m ≡ false → m ≡ Still
idle Still e = refl
idle Moving e = absurd (true-not-false e)
idle (Owing asked) e = absurd (true-not-false e)
idle (Stopped reached) e = absurd (true-not-false e)

nothing-not-result : (r : Bool) → None ≡ Some r → ⊥
nothing-not-result r e = true-not-false (cc)

-- a movement that starts makes no result that waits
pub starts-no-result : (n : Antenna) (t : Angle) (r : Bool) → waiting_of (started n t (Ok tt)).motion ≡ Some r → ⊥
unfolding started moves waiting_of
starts-no-result n t r e = nothing-not-result r e

-- a result waits after a stop exactly where the movement owed one: success exactly if the stop is at the tilt asked
pub stop-result : (m : Motion) (t : Angle) (r : Bool) → runs m ≡ true → waiting_of (rested_of m t) ≡ Some r
    → (asked : Angle) × (m ≡ Owing asked) × (r ≡ same_as asked t)
unfolding rested_of waiting_of
stop-result Still t r h e = absurd (true-not-false (sym h))
stop-result Moving t r h e = absurd (nothing-not-result r e)
stop-result (Owing asked) t r h e = (asked, refl, result-same (same_as asked t) r e)
stop-result (Stopped reached) t r h e = absurd (true-not-false (sym h))

-- an alarm makes none, and a session's end drops it
pub alarm-no-result : (n : Antenna) (k : ℕ) (on : Bool) → waiting_of (with_alarm n k on).motion ≡ waiting_of n.motion
unfolding with_alarm
alarm-no-result n k on = refl

pub end-no-result : (m : Motion) → waiting_of (unowed_of m) ≡ None
unfolding waiting_of
end-no-result Still = refl
end-no-result Moving = refl
end-no-result (Owing asked) = refl
end-no-result (Stopped reached) = refl
