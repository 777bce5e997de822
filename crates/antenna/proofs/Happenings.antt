-- Each way out of an event's test. Assumes nothing.
use mathlib.Core.Path.{◌≡◌, refl, ap, ◌∙◌}
use mathlib.Core.Bool.{Bool, true, false, not, ◌&&◌}
use Prim.Native.Nat.{ℕ, ◌<◌, ◌≤◌}
use borrow.Author.Tests.{lt-ltb, le-ltb}
use lib.ListN.{set}
use Rattle.octets.specs.Octets.{holds, place_of}
use Rattle.octets.proofs.Words.{place-held}
use Rattle.refusal.specs.Answer.{gives, refuses, answered}
use Rattle.refusal.proofs.Answers.{answered-here}
use Rattle.antenna.specs.declared.Angle.{Angle}
use Rattle.antenna.specs.declared.Antenna.{Antenna}
use Rattle.antenna.specs.Alarms.{alarm_codes}
use Rattle.antenna.specs.Motions.{in_range, runs}
use Rattle.antenna.specs.declared.Motion.{Motion}
use Rattle.antenna.specs.Events.{rested_of, rested_at, can_stop, stopped_at, with_alarm, is_alarm, alarmed_of}
use Rattle.antenna.specs.Events.{tilted, marked}

and-false : (a : Bool) → (a && false) ≡ false
and-false true = refl
and-false false = refl

module _ (n : Antenna) (t : Angle) where
  pub stops : {m : Motion} → runs n.motion ≡ true → in_range n t ≡ true → m ≡ rested_of n.motion t
      → stopped_at n t
      ≡ gives (record { motion = m; drive = tilted n.drive t })
  unfolding stopped_at can_stop answered rested_at
  stops r h e = rw (r, h, e)

  pub no-movement : runs n.motion ≡ false → stopped_at n t ≡ refuses 8
  unfolding stopped_at can_stop
  no-movement r = answered-here _ _ _ (ap not (ap (λ (b : Bool). b && in_range n t) r))

  pub outside : in_range n t ≡ false → stopped_at n t ≡ refuses 8
  unfolding stopped_at can_stop
  outside h = answered-here _ _ _ (ap not (ap (λ (b : Bool). runs n.motion && b) h ∙ and-false (runs n.motion)))

module _ (n : Antenna) (k : ℕ) (on : Bool) {place : ℕ} (e : place ≡ place_of k alarm_codes) where
  pub known : place < 6 → alarmed_of n k on
      ≡ gives
      (record {
        motion = n.motion;
        drive = marked n.drive (record { flags = set n.drive.raised.flags place on });
      })
  unfolding alarmed_of is_alarm answered with_alarm
  known h = rw (place-held k alarm_codes, ← e, lt-ltb place 6 h)

  pub unknown : 6 ≤ place → alarmed_of n k on ≡ refuses 8
  unfolding alarmed_of is_alarm
  unknown h =
      let none : holds k alarm_codes ≡ false = rw (place-held k alarm_codes, ← e) (le-ltb place 6 h) in
      answered-here _ _ _ (ap not none)
