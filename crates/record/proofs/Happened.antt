-- An event of a device is the event of its antenna, after refusal 6. Assumes nothing.
use Rattle.std.proofs.Common.{Result}
use Rattle.refusal.specs.declared.Refusal.{Refusal}
use mathlib.Core.Path.{◌≡◌, sym, ap}
use mathlib.Core.Bool.{true, false, not}
use mathlib.Core.List.{[], ◌∷◌}
use Prim.Native.Nat.{ℕ}
use Rattle.refusal.specs.Answer.{refuses, ◌when◌, Changes}
use Rattle.refusal.proofs.Answers.{answered-here, answered-later, changes-is, changes-through}
use Rattle.antenna.specs.declared.Angle.{Angle}
use Rattle.antenna.specs.declared.Antenna.{Antenna}
use Rattle.antenna.specs.Events.{stopped_at, alarmed_of}
use Rattle.record.specs.Allowed.{allowed_device}
use Rattle.record.specs.Changes.{can_be, after_event, antenna_happened, with_antenna, event_rows, happened}
use Rattle.record.specs.declared.Device.{Device}
use Rattle.record.specs.declared.Event.{Event}
use Rattle.record.specs.declared.Event.TheVariants.{Stopped, Raised, Cleared}

module _ (n : Antenna) (e : Event) where
  pub stop-happened : (t : Angle) → e ≡ Stopped t → stopped_at n t ≡ antenna_happened n e
  unfolding antenna_happened can_be after_event stopped_at
  stop-happened t q = rw q

  pub raise-happened : (k : ℕ) → e ≡ Raised k → alarmed_of n k true ≡ antenna_happened n e
  unfolding antenna_happened can_be after_event alarmed_of
  raise-happened k q = rw q

  pub clear-happened : (k : ℕ) → e ≡ Cleared k → alarmed_of n k false ≡ antenna_happened n e
  unfolding antenna_happened can_be after_event alarmed_of
  clear-happened k q = rw q

module _ (d : Device) (e : Event) where
  pub not-allowed : allowed_device d ≡ false → happened d e ≡ refuses 6
  unfolding happened event_rows
  not-allowed h = answered-here _ _ _ (ap not h)

  pub device-happened : allowed_device d ≡ true → {n : Antenna} {r : Result (Unit {0}) Refusal}
      → Changes (antenna_happened d.antenna e) d.antenna r n → Changes (happened d e) d r (with_antenna d n)
  unfolding happened event_rows antenna_happened
  device-happened h c =
      changes-is (sym (answered-later _ _ _ (ap not h)))
      (changes-through (with_antenna d) (8 when not (can_be d.antenna e) ∷ []) (after_event d.antenna e) c)
