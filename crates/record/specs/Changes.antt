-- What a session's end leaves of a record, and what happens to it.
--   unsaid_at t a n l == the station t at the address a, with the frame limit n, in the link state l, with nothing
--                        pending
--   device_of d t n == the device d with the station t and the antenna n
--   emptied_as d a n l == the device d so, with nothing pending and nothing owed
--   ended_as d a l  == the device d after its session's end, at the address a in the link state l
--   limited_to d n  == the device d with the frame limit n
--   can_be n e      == the event e can happen to the antenna n; after_event n e == the antenna then
--   CanHappen n e   == the same as can_be, in the words of refusal 8
--   antenna_happened n e == the event e, of an antenna; happened d e == of a device
-- Assumes nothing.
use Rattle.std.specs.Prelude.{Bool, true, false, not, List, [], ◌∷◌, ℕ, ◌≤ℤ◌}
use Rattle.refusal.specs.Answer.{Answer, TestRow, ◌when◌, answered}
use Rattle.limits.specs.Limits.{limit_least}
use Rattle.antenna.specs.declared.Antenna.{Antenna}
use Rattle.antenna.specs.Motions.{unowed_of, moves}
use Rattle.octets.specs.Octets.{OneOf}
use Rattle.antenna.specs.Events.{Runs, can_stop, rested_at, is_alarm, with_alarm}
use Rattle.record.specs.Allowed.{allowed_device}
use Rattle.record.specs.Desk.{with_address, with_limit, unsaid}
use Rattle.record.specs.declared.Link.{Link}
use Rattle.record.specs.declared.Station.{Station}
use Rattle.record.specs.declared.Device.{Device}
use Rattle.record.specs.declared.Event.{Event}
use Rattle.record.specs.declared.Event.TheVariants.{Stopped, Raised, Cleared}

-- "Ending a session drops the pending answer and any tilt result owed; alarms, subscription and a running movement
-- stay."
unfoldable pub unsaid_at : Station → ℕ → ℕ → Link → Station
unsaid_at t a n l = record { link = l; desk = with_limit (with_address (unsaid t.desk) a) n }

unfoldable pub device_of : Device → Station → Antenna → Device
device_of d t n = record { plate = d.plate; station = t; antenna = n }

unfoldable pub emptied_as : Device → ℕ → ℕ → Link → Device
emptied_as d a n l =
    record {
      plate = d.plate;
      station = unsaid_at d.station a n l;
      antenna = moves d.antenna (unowed_of d.antenna.motion);
    }

-- 02 (iv): "78 again after an assignment or a session's end"
abbrev pub ended_as : Device → ℕ → Link → Device
ended_as d a l = emptied_as d a limit_least l

unfoldable pub limited_to : Device → ℕ → Device
limited_to d n = device_of d (record { link = d.station.link; desk = with_limit d.station.desk n }) d.antenna

unfoldable pub can_be : Antenna → Event → Bool
can_be n (Stopped t) = can_stop n t
can_be n (Raised k) = is_alarm k
can_be n (Cleared k) = is_alarm k

-- "Refusal 8: a stop with no movement, t outside lowest to highest, an alarm not among 0x02, 0x03, 0x0E, 0x0F, 0x11,
-- 0x27"
abbrev pub CanHappen : Antenna → Event → Type 0
CanHappen n (Stopped t) =
    Runs n.motion × (n.drive.lowest.tenths ≤ℤ t.tenths) × (t.tenths ≤ℤ n.drive.highest.tenths)
CanHappen n (Raised k) = OneOf k (0x02 ∷ 0x03 ∷ 0x0E ∷ 0x0F ∷ 0x11 ∷ 0x27 ∷ [])
CanHappen n (Cleared k) = OneOf k (0x02 ∷ 0x03 ∷ 0x0E ∷ 0x0F ∷ 0x11 ∷ 0x27 ∷ [])

unfoldable pub after_event : Antenna → Event → Antenna
after_event n (Stopped t) = rested_at n t
after_event n (Raised k) = with_alarm n k true
after_event n (Cleared k) = with_alarm n k false

unfoldable pub antenna_happened : Antenna → Event → Answer Antenna
antenna_happened n e = answered (8 when not (can_be n e) ∷ []) (after_event n e)

abbrev pub with_antenna : Device → Antenna → Device
with_antenna d n = record { plate = d.plate; station = d.station; antenna = n }

-- "the device 6, then .. 8 for an event"
unfoldable pub event_rows : Device → Event → List TestRow
event_rows d e = 6 when not (allowed_device d) ∷ 8 when not (can_be d.antenna e) ∷ []

unfoldable pub happened : Device → Event → Answer Device
happened d e = answered (event_rows d e) (with_antenna d (after_event d.antenna e))
