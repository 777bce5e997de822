-- An allowed record stays allowed: under every event, and at a session's end; and a fresh device is allowed.
-- Assumes nothing.
use Rattle.octets.specs.Text.{laid}
use mathlib.Core.Path.{◌≡◌, refl, ap, ◌∙◌}
use mathlib.Core.Bool.{Bool, true, false, not}
use mathlib.Core.List.{List}
use Prim.Native.Nat.{ℕ}
use borrow.Author.Tests.{not-true, not-false, le-leb}
use lib.Dec.{leb}
use lib.ListN.{length, take, replicate}
use Rattle.octets.specs.Octets.{◌at_start_of◌}
use Rattle.octets.proofs.Stores.{take-start}
use Rattle.octets.proofs.Words.{true-not-false, and_parts}
use Rattle.refusal.specs.Answer.{gives, Clear}
use Rattle.refusal.proofs.Exactly.{exactly-given}
use Rattle.limits.specs.Limits.{limit_least, is_limit, Limited}
use Rattle.limits.proofs.Exactly.{is-limit-exactly, limit-least}
use Rattle.identity.specs.Identity.{width}
use Rattle.identity.proofs.Identities.{allowed-parts}
use Rattle.antenna.specs.declared.Angle.{Angle}
use Rattle.antenna.specs.declared.Antenna.{Antenna}
use Rattle.antenna.specs.declared.Motion.{Motion}
use Rattle.antenna.specs.declared.Motion.TheVariants.{Still, Moving, Owing, Stopped}
use Rattle.antenna.specs.Motions.{in_range, runs, owes_of, unowed_of, moves}
use Rattle.antenna.specs.Events.{can_stop, rested_at, with_alarm, rested_of}
use Rattle.antenna.proofs.Movements.{unowed-owes}
use Rattle.record.specs.Allowed.{limit_of, identity_allowed, plates_allowed, link_allowed}
use Rattle.record.specs.Allowed.{station_allowed, owed_allowed, allowed_device}
use Rattle.record.specs.Fresh.{plate_from, fresh_from}
use Rattle.record.specs.Fresh.{texts_allowed, data_allowed}
use Rattle.record.specs.Changes.{unsaid_at, emptied_as, ended_as, can_be, after_event, with_antenna, event_rows, happened}
use Rattle.record.proofs.Laid.{texts-parts}
use Rattle.record.specs.declared.Link.{Link}
use Rattle.record.specs.declared.Link.TheVariants.{NoAddress, AddressAssigned, Connected}
use Rattle.record.specs.declared.Device.{Device}
use Rattle.record.specs.declared.Event.{Event}
use Rattle.record.specs.declared.Event.TheVariants as event

-- the five parts of an allowed record, and back
pub record Sound (d : Device) : Type 0 where
  pub plate : plates_allowed d.plate ≡ true
  pub range : in_range d.antenna d.antenna.drive.tilt ≡ true
  pub limit : is_limit d.station.desk.limit ≡ true
  pub link : link_allowed d.station.desk d.station.link ≡ true
  pub owed : owed_allowed d.station.link d.antenna.motion ≡ true

pub sound : (d : Device) → allowed_device d ≡ true → Sound d
unfolding allowed_device station_allowed
sound d e =
    let one = and_parts (plates_allowed d.plate) _ e in
    let two = and_parts (in_range d.antenna d.antenna.drive.tilt) _ one.1 in
    let three = and_parts (station_allowed d.station) _ two.1 in
    let four = and_parts (is_limit d.station.desk.limit) _ three.0 in
    record { plate = one.0; range = two.0; limit = four.0; link = four.1; owed = three.1 }

pub allowed-by : (d : Device) → Sound d → allowed_device d ≡ true
unfolding allowed_device station_allowed
allowed-by d s = rw (s.plate, s.range, s.limit, s.link, s.owed)

-- the frame limit of an allowed record is one
pub limit-allowed : (d : Device) → allowed_device d ≡ true → is_limit (limit_of d) ≡ true
limit-allowed d e = (sound d e).limit

pub limited : (d : Device) → allowed_device d ≡ true → Limited (limit_of d)
limited d e = (is-limit-exactly (limit_of d)).0 (limit-allowed d e)

-- a stop makes nothing owed where nothing was
rested-owes : (m : Motion) (t : Angle) → owes_of m ≡ false → owes_of (rested_of m t) ≡ false
unfolding rested_of
rested-owes Still t e = refl
rested-owes Moving t e = refl
rested-owes (Owing asked) t e = absurd (true-not-false e)
rested-owes (Stopped reached) t e = absurd (true-not-false e)

-- what is owed may be owed after another motion too, where that owes no more
owed-less : (l : Link) (m k : Motion) → (owes_of m ≡ false → owes_of k ≡ false) → owed_allowed l m ≡ true → owed_allowed
    l k ≡ true
unfolding owed_allowed
owed-less NoAddress m k f e = ap not (f (not-true _ e))
owed-less AddressAssigned m k f e = ap not (f (not-true _ e))
owed-less (Connected s) m k f e = refl

stop-range : (n : Antenna) (t : Angle) → can_stop n t ≡ true → in_range (rested_at n t) t ≡ true
unfolding can_stop in_range rested_at
stop-range n t e = (and_parts (runs n.motion) (in_range n t) e).1

alarm-range : (n : Antenna) (k : ℕ) (on : Bool) (t : Angle) → in_range (with_alarm n k on) t ≡ in_range n t
unfolding in_range with_alarm
alarm-range n k on t = refl

-- the antenna after an event that can be
after-range : (n : Antenna) (e : Event) → can_be n e ≡ true → in_range n n.drive.tilt ≡ true
    → in_range (after_event n e) (after_event n e).drive.tilt ≡ true
unfolding can_be after_event rested_at with_alarm
after-range n (event.Stopped t) c r = stop-range n t c
after-range n (event.Raised k) c r = alarm-range n k true n.drive.tilt ∙ r
after-range n (event.Cleared k) c r = alarm-range n k false n.drive.tilt ∙ r

after-owes : (n : Antenna) (e : Event) → owes_of n.motion ≡ false → owes_of (after_event n e).motion ≡ false
unfolding after_event rested_at with_alarm
after-owes n (event.Stopped t) o = rested-owes n.motion t o
after-owes n (event.Raised k) o = o
after-owes n (event.Cleared k) o = o

-- under every event
pub event-stays : (d b : Device) (e : Event) → allowed_device d ≡ true → happened d e ≡ gives b → allowed_device b ≡ true
unfolding happened event_rows Clear
event-stays d b e a g =
    let clear = (exactly-given (event_rows d e) (with_antenna d (after_event d.antenna e)) b).0 g in
    let can = not-false (can_be d.antenna e) clear.0.1.0 in
    let s = sound d a in
    let owes = after-owes d.antenna e in
    rw (← clear.1)
    (allowed-by (with_antenna d (after_event d.antenna e))
    (record {
      plate = s.plate;
      range = after-range d.antenna e can s.range;
      limit = s.limit;
      link = s.link;
      owed = owed-less d.station.link d.antenna.motion (after_event d.antenna e).motion owes s.owed;
    }))

moved-range : (n : Antenna) (m : Motion) (t : Angle) → in_range (moves n m) t ≡ in_range n t
unfolding in_range moves
moved-range n m t = refl

unowed-allowed : (l : Link) (m : Motion) → owed_allowed l (unowed_of m) ≡ true
unfolding owed_allowed
unowed-allowed NoAddress m = ap not (unowed-owes m)
unowed-allowed AddressAssigned m = ap not (unowed-owes m)
unowed-allowed (Connected s) m = refl

-- with nothing pending and nothing owed, at an address and in a link state that fit each other
pub emptied-stays : (d : Device) (a n : ℕ) (l : Link) → allowed_device d ≡ true → is_limit n ≡ true
    → link_allowed (unsaid_at d.station a n l).desk l ≡ true
    → allowed_device (emptied_as d a n l) ≡ true
unfolding emptied_as unsaid_at moves
emptied-stays d a n l e h k =
    let s = sound d e in
    allowed-by (emptied_as d a n l)
    (record {
      plate = s.plate;
      range = moved-range d.antenna (unowed_of d.antenna.motion) d.antenna.drive.tilt ∙ s.range;
      limit = h;
      link = k;
      owed = unowed-allowed l d.antenna.motion;
    })

-- at a session's end
pub end_stays : (d : Device) (a : ℕ) (l : Link) → allowed_device d ≡ true
    → link_allowed (unsaid_at d.station a limit_least l).desk l ≡ true
    → allowed_device (ended_as d a l) ≡ true
end_stays d a l e k = emptied-stays d a limit_least l e limit-least k

-- a text laid into zeros is read back
text-back : (n : ℕ) (s : List ℕ) → take (length s) (s at_start_of replicate n 0) ≡ s
text-back n s = take-start s (replicate n 0)

pub plate-allowed : (i p h s : List ℕ) → texts_allowed i p h s ≡ true → plates_allowed (plate_from i p h s) ≡ true
unfolding plates_allowed identity_allowed plate_from laid
plate-allowed i p h s e =
    let t = texts-parts i p h s e in
    let short : leb (length i) width ≡ true = le-leb (length i) width (allowed-parts i t.0).most in
    rw (text-back width i, short, t.0, t.1, t.2, t.3)

-- a fresh device
pub fresh-allowed : (i p h s : List ℕ) (n : Antenna) → data_allowed i p h s n ≡ true → owes_of n.motion ≡ false
    → allowed_device (fresh_from (plate_from i p h s) n) ≡ true
unfolding data_allowed fresh_from link_allowed owed_allowed
fresh-allowed i p h s n e o =
    let parts = and_parts (texts_allowed i p h s) (in_range n n.drive.tilt) e in
    allowed-by (fresh_from (plate_from i p h s) n)
    (record {
      plate = plate-allowed i p h s parts.0;
      range = parts.1;
      limit = limit-least;
      link = refl;
      owed = ap not o;
    })
