-- Each promise of this crate allows one result, and each number of a fresh device and of an event is given exactly when
-- 01 says.
-- Assumes nothing.
use mathlib.Core.Path.{◌≡◌, ap}
use mathlib.Core.Bool.{true, false, not}
use mathlib.Core.List.{List}
use mathlib.Core.Logic.{◌↔◌}
use Prim.Native.Nat.{ℕ}
use borrow.Author.Tests.{not-true, not-false}
use Rattle.octets.specs.Octets.{holds}
use Rattle.octets.proofs.Only.{only}
use Rattle.refusal.specs.Answer.{refuses, numbers_of}
use Rattle.refusal.proofs.Exactly.{TestsFor, exactly-tests}
use Rattle.record.specs.Allowed.{allowed_device}
use Rattle.record.specs.Fresh.{fresh_of, data_allowed, plate_from, fresh_from, antenna_from}
use Rattle.record.specs.Changes.{can_be, after_event, with_antenna, event_rows, happened}
use Rattle.record.specs.declared.Span.{Span}
use Rattle.record.specs.declared.Device.{Device}
use Rattle.record.specs.declared.Event.{Event}
use Rattle.octets.proofs.Only.{AsksNothing, Settles}
use Rattle.record.proofs.allowed.Reads as allowed-reads
use Rattle.record.proofs.is_addressed.Reads as is-addressed-reads

-- 6: "device data .. not allowed", of a fresh device
pub fresh-6 : (i p h s : List ℕ) (w : Span) → fresh_of i p h s w ≡ refuses 6 ↔ data_allowed i p h s (antenna_from w) ≡
    false
unfolding fresh_of TestsFor numbers_of holds
fresh-6 i p h s w =
    let both = exactly-tests 6 _ (fresh_from (plate_from i p h s) (antenna_from w)) in
    (λ e. not-true _ (both.0 e), λ e. both.1 (ap not e))

module _ (d : Device) (e : Event) where
  by_rows : (k : ℕ) → happened d e ≡ refuses k ↔ TestsFor k (event_rows d e)
  unfolding happened
  by_rows k = exactly-tests k (event_rows d e) (with_antenna d (after_event d.antenna e))

  -- 6: "a device record handed in, not allowed"
  pub happen-6 : happened d e ≡ refuses 6 ↔ allowed_device d ≡ false
  unfolding TestsFor numbers_of holds event_rows
  happen-6 = (λ g. not-true _ ((by_rows 6).0 g), λ w. (by_rows 6).1 (ap not w))

  -- 8: "a device event that can't be", and not 6
  pub happen-8 : happened d e ≡ refuses 8 ↔ (allowed_device d ≡ true) × (can_be d.antenna e ≡ false)
  unfolding TestsFor numbers_of holds event_rows
  happen-8 = (
    λ g. let t = (by_rows 8).0 g in (not-false _ t.0, not-true _ t.1),
    λ w. (by_rows 8).1 (ap not w.0, ap not w.1),
  )

pub allowed-only : Settles allowed-reads.Learnt
allowed-only κs a r q s t = only

pub allowed-asks : AsksNothing allowed-reads.Asked
allowed-asks κs a = tt

pub is-addressed-only : Settles is-addressed-reads.Learnt
is-addressed-only κs a r q s t = only

pub is-addressed-asks : AsksNothing is-addressed-reads.Asked
is-addressed-asks κs a = tt
