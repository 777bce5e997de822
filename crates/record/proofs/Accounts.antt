-- What an event changes, whole, and what a fresh device is, whole. Assumes nothing.
use Rattle.octets.specs.Text.{laid}
use mathlib.Core.Path.{◌≡◌, refl, ◌∙◌}
use mathlib.Core.Bool.{Bool, true, false}
use mathlib.Core.List.{List}
use mathlib.Core.Logic.{◌↔◌, ◌⊎◌, inl, inr}
use Prim.Native.Nat.{ℕ}
use borrow.Author.Tests.{not-false}
use lib.ListN.{length, length-set}
use lib.Signed.{◌≤ℤ◌}
use Rattle.octets.specs.Octets.{holds, place_of}
use Rattle.octets.proofs.Stores.{take-start}
use Rattle.refusal.specs.Answer.{gives, Clear}
use Rattle.refusal.proofs.Exactly.{exactly-given}
use Rattle.antenna.specs.declared.Angle.{Angle}
use Rattle.antenna.specs.declared.Antenna.{Antenna}
use Rattle.antenna.specs.declared.Motion.TheVariants as motion
use Rattle.antenna.specs.Alarms.{alarm_codes, codes_of, codes_among}
use Rattle.antenna.specs.Angles.{same_as}
use Rattle.antenna.specs.Events.{Runs, rested_of, rested_at, is_alarm, with_alarm}
use Rattle.antenna.proofs.Angles.{same-exactly}
use Rattle.antenna.proofs.Can.{stop-exactly, alarm-exactly}
use Rattle.antenna.proofs.Codes.{raise-exactly, clear-exactly}
use Rattle.record.specs.Fresh.{plate_from, fresh_from, antenna_from, fresh_of}
use Rattle.record.specs.Changes.{can_be, after_event, with_antenna, event_rows, happened}
use Rattle.record.specs.Accounts.{EventAccount, FreshAccount}
use Rattle.record.specs.declared.Span.{Span}
use Rattle.record.specs.declared.Device.{Device}
use Rattle.record.specs.declared.Event.{Event}
use Rattle.record.specs.declared.Event.TheVariants.{Stopped, Raised, Cleared}

-- of an antenna: each event
module _ (n : Antenna) where
  range-kept : (e : Event) → ((after_event n e).drive.lowest ≡ n.drive.lowest) × ((after_event n e).drive.highest ≡ n.drive.highest)
  unfolding after_event rested_at with_alarm
  range-kept (Stopped t) = (refl, refl)
  range-kept (Raised k) = (refl, refl)
  range-kept (Cleared k) = (refl, refl)

  row_kept : (e : Event) → length (after_event n e).drive.raised.flags ≡ length n.drive.raised.flags
  unfolding after_event rested_at with_alarm
  row_kept (Stopped t) = refl
  row_kept (Raised k) = length-set n.drive.raised.flags (place_of k alarm_codes) true
  row_kept (Cleared k) = length-set n.drive.raised.flags (place_of k alarm_codes) false

  drive-kept : (e : Event) → ((t : Angle) → e ≡ Stopped t → ⊥)
      → ((after_event n e).drive.tilt ≡ n.drive.tilt) × ((after_event n e).motion ≡ n.motion)
  unfolding after_event rested_at with_alarm
  drive-kept (Stopped t) none = absurd (none t refl)
  drive-kept (Raised k) none = (refl, refl)
  drive-kept (Cleared k) none = (refl, refl)

  module _ (t : Angle) where
    stop-drive : ((after_event n (Stopped t)).drive.tilt ≡ t) × ((after_event n (Stopped t)).motion ≡ rested_of n.motion t)
        × ((after_event n (Stopped t)).drive.raised ≡ n.drive.raised)
    unfolding after_event rested_at
    stop-drive = (refl, refl, refl)

    stop-can : can_be n (Stopped t) ≡ true
        → Runs n.motion × (n.drive.lowest.tenths ≤ℤ t.tenths) × (t.tenths ≤ℤ n.drive.highest.tenths)
    unfolding can_be
    stop-can c = (stop-exactly n t).0 c

    rest-owing : (asked : Angle) → n.motion ≡ motion.Owing asked
        → (reached : Bool) × (rested_of n.motion t ≡ motion.Stopped reached) × (reached ≡ true ↔ asked ≡ t)
    unfolding rested_of
    rest-owing asked e = (same_as asked t, rw e, same-exactly asked t)

    rest-moving : n.motion ≡ motion.Moving → rested_of n.motion t ≡ motion.Still
    unfolding rested_of
    rest-moving e = rw e

  alarm-can : (e : Event) (k : ℕ) → can_be n e ≡ true → (e ≡ Raised k) ⊎ (e ≡ Cleared k) → is_alarm k ≡ true
  unfolding can_be
  alarm-can e k c (inl q) = rw q at c
  alarm-can e k c (inr q) = rw q at c

  module _ (k : ℕ) (six : length n.drive.raised.flags ≡ 6) (known : is_alarm k ≡ true) (j : ℕ) where
    after-raise : holds j (codes_of (after_event n (Raised k)).drive.raised.flags) ≡ true
        ↔ (j ≡ k) ⊎ (holds j (codes_of n.drive.raised.flags) ≡ true)
    unfolding after_event with_alarm is_alarm
    after-raise = raise-exactly j k n.drive.raised.flags six known

    after-clear : holds j (codes_of (after_event n (Cleared k)).drive.raised.flags) ≡ true
        ↔ (j ≡ k → ⊥) × (holds j (codes_of n.drive.raised.flags) ≡ true)
    unfolding after_event with_alarm is_alarm
    after-clear = clear-exactly j k n.drive.raised.flags six known

account : (d : Device) (e : Event) → can_be d.antenna e ≡ true
    → EventAccount d e (with_antenna d (after_event d.antenna e))
account d e c =
    let n : Antenna = d.antenna in
    let range = range-kept n e in
    record {
      plate = refl;
      station = refl;
      lowest = range.0;
      highest = range.1;
      stop-runs = λ t q. (stop-can n t (rw q at c)).0;
      stop-inside = λ t q. let w = stop-can n t (rw q at c) in (w.1, w.2);
      tilt-stopped = λ t q. rw q (stop-drive n t).0;
      tilt-kept = λ none. (drive-kept n e none).0;
      result = λ t asked q m. rw (q, (stop-drive n t).1) (rest-owing n t asked m);
      unowed = λ t q m. rw q ((stop-drive n t).1 ∙ rest-moving n t m);
      motion-kept = λ none. (drive-kept n e none).1;
      raised-known = λ k q. (alarm-exactly k).0 (alarm-can n e k c q);
      raised-more = λ k q six j. rw q (after-raise n k six (alarm-can n e k c (inl q)) j);
      raised-less = λ k q six j. rw q (after-clear n k six (alarm-can n e k c (inr q)) j);
      raised-row = row_kept n e;
      raised-kept = λ t q. rw q (stop-drive n t).2;
    }

-- what an event changes, and that nothing else does
pub event-account : (d b : Device) (e : Event) → happened d e ≡ gives b → EventAccount d e b
unfolding happened event_rows Clear
event-account d b e g =
    let clear = (exactly-given (event_rows d e) (with_antenna d (after_event d.antenna e)) b).0 g in
    rw (← clear.1) (account d e (not-false (can_be d.antenna e) clear.0.1.0))

-- "A fresh device has address 0 and no alarms, subscription or movement", and is who it is made to be
fresh-account : (i p h s : List ℕ) (w : Span) → FreshAccount i p h s w (fresh_from (plate_from i p h s) (antenna_from w))
unfolding fresh_from plate_from laid codes_among
fresh-account i p h s w =
    record {
      address = refl;
      link = refl;
      limit = refl;
      alarms = refl;
      raised = refl;
      told = refl;
      said = refl;
      subscribed = refl;
      reply = refl;
      movement = refl;
      identity = take-start i _;
      product = take-start p _;
      hardware = take-start h _;
      software = take-start s _;
      lowest = refl;
      highest = refl;
      present = refl;
    }

pub fresh-is : (i p h s : List ℕ) (w : Span) (d : Device) → fresh_of i p h s w ≡ gives d → FreshAccount i p h s w d
unfolding fresh_of Clear
fresh-is i p h s w d g =
    rw (← ((exactly-given _ (fresh_from (plate_from i p h s) (antenna_from w)) d).0 g).1) (fresh-account i p h s w)
