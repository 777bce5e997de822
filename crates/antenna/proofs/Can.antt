-- Which events can be, in the words of refusal 8. Assumes nothing.
use mathlib.Core.Path.{◌≡◌, refl, sym}
use mathlib.Core.Bool.{Bool, true}
use mathlib.Core.List.{[], ◌∷◌}
use mathlib.Core.Logic.Iff
use mathlib.Core.Logic.{◌↔◌, inl, inr, ⊎_elim}
use Prim.Native.Nat.{ℕ}
use lib.Signed.{◌≤ℤ◌}
use Rattle.octets.specs.Octets.{OneOf}
use Rattle.octets.proofs.Words.{true-not-false, holds-exactly}
use Rattle.antenna.specs.declared.Angle.{Angle}
use Rattle.antenna.specs.declared.Antenna.{Antenna}
use Rattle.antenna.specs.declared.Motion.{Motion}
use Rattle.antenna.specs.declared.Motion.TheVariants.{Still, Moving, Owing, Stopped}
use Rattle.antenna.specs.Motions.{in_range, runs}
use Rattle.antenna.specs.Events.{Runs, can_stop, is_alarm}
use Rattle.antenna.proofs.Angles.{both-exactly, range-exactly}

still-moving : Still ≡ Moving → ⊥
still-moving e = true-not-false (cc)

still-owing : (a : Angle) → Still ≡ Owing a → ⊥
still-owing a e = true-not-false (cc)

stopped-moving : (b : Bool) → Stopped b ≡ Moving → ⊥
stopped-moving b e = true-not-false (cc)

stopped-owing : (b : Bool) (a : Angle) → Stopped b ≡ Owing a → ⊥
stopped-owing b a e = true-not-false (cc)

pub runs-exactly : (m : Motion) → runs m ≡ true ↔ Runs m
runs-exactly Still = (
  λ e. absurd (true-not-false (sym e)),
  ⊎_elim (λ e. absurd (still-moving e)) (λ w. absurd (still-owing w.0 w.1)),
)
runs-exactly Moving = (λ e. inl refl, λ w. refl)
runs-exactly (Owing asked) = (λ e. inr (asked, refl), λ w. refl)
runs-exactly (Stopped reached) = (
  λ e. absurd (true-not-false (sym e)),
  ⊎_elim (λ e. absurd (stopped-moving reached e)) (λ w. absurd (stopped-owing reached w.0 w.1)),
)

-- "a stop with no movement, t outside lowest to highest": it can be exactly if neither is so
pub stop-exactly : (n : Antenna) (t : Angle) → can_stop n t ≡ true
    ↔ Runs n.motion × (n.drive.lowest.tenths ≤ℤ t.tenths) × (t.tenths ≤ℤ n.drive.highest.tenths)
unfolding can_stop
stop-exactly n t =
    let run = runs-exactly n.motion in
    let range = range-exactly n t in
    Iff.trans (both-exactly (runs n.motion) (in_range n t)) (
      λ w. let r = range.0 w.1 in (run.0 w.0, r.0, r.1),
      λ w. (run.1 w.0, range.1 (w.1, w.2)),
    )

-- "an alarm not among 0x02, 0x03, 0x0E, 0x0F, 0x11, 0x27"
pub alarm-exactly : (k : ℕ) → is_alarm k ≡ true ↔ OneOf k (0x02 ∷ 0x03 ∷ 0x0E ∷ 0x0F ∷ 0x11 ∷ 0x27 ∷ [])
unfolding is_alarm
alarm-exactly k = holds-exactly k (0x02 ∷ 0x03 ∷ 0x0E ∷ 0x0F ∷ 0x11 ∷ 0x27 ∷ [])
