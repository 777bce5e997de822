-- What an acknowledgement does to a session and its station. 01, "The link".
--   emptied s       == the session s once its pending answer is acknowledged: S moves on
--   told_after k p  == what is told once p, pending at the desk k, is acknowledged
--   relieved t s    == the station t once the pending answer of its session s is acknowledged
--   session_after s n, station_after t s n == after a good N(R) = n
--   acknowledged d s n == the device d, in its session s, after a good N(R) = n
-- Assumes nothing.
use Rattle.std.specs.Prelude.{cond, ℕ}
use Rattle.control.specs.Control.{next_of}
use Rattle.antenna.specs.declared.Alarms.{Alarms}
use Rattle.record.specs.declared.Pending.{Pending}
use Rattle.record.specs.declared.Pending.TheVariants.{Nothing, Answer, Indication}
use Rattle.record.specs.declared.Session.{Session}
use Rattle.record.specs.declared.Link.TheVariants.{Connected}
use Rattle.record.specs.declared.Desk.{Desk}
use Rattle.record.specs.declared.Station.{Station}
use Rattle.record.specs.declared.Device.{Device}
use Rattle.record.specs.Desk.{with_told, unsaid}
use Rattle.record.specs.Changes.{device_of}
use Rattle.session.specs.Session.{acknowledges}

-- "which removes it and moves S on"
unfoldable pub emptied : Session → Session
emptied s = record { r = s.r; s = next_of s.s; pending = Nothing }

-- "Told is updated when the indication is acknowledged, to what it said."
unfoldable pub told_after : Desk → Pending → Alarms
told_after k Nothing = k.told
told_after k Answer = k.told
told_after k Indication = k.said

unfoldable pub relieved : Station → Session → Station
relieved t s =
    record {
      link = Connected (emptied s);
      desk = unsaid (with_told t.desk (told_after t.desk s.pending));
    }

unfoldable pub session_after : Session → ℕ → Session
session_after s n = cond (acknowledges s n) (emptied s) s

unfoldable pub station_after : Station → Session → ℕ → Station
station_after t s n = cond (acknowledges s n) (relieved t s) t

unfoldable pub acknowledged : Device → Session → ℕ → Device
acknowledged d s n = device_of d (station_after d.station s n) d.antenna
