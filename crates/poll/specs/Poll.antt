-- RR in a session. 01, "The link": "RR gets the pending answer; else a waiting tilt result; else, if subscribed and
-- there is something to tell, an alarm indication; else RR."
--   indicates t s a == the station t with an indication of the alarms a pending in its session s
--   indicating d s  == the device d, with an indication of its alarms pending, which it says
--   to_tell k v     == there is something to tell, and it is subscribed
--   poll_of d s     == what RR gets, the answer that it acknowledges being removed
-- Assumes nothing.
use Rattle.std.specs.Prelude.{Bool, cond, ◌&&◌, Option, Some, None}
use Rattle.antenna.specs.declared.Alarms.{Alarms}
use Rattle.antenna.specs.declared.Drive.{Drive}
use Rattle.antenna.specs.declared.Motion.TheVariants.{Still}
use Rattle.antenna.specs.Alarms.{any_differ}
use Rattle.antenna.specs.Motions.{waiting_of, moves}
use Rattle.record.specs.declared.Pending.TheVariants.{Indication}
use Rattle.record.specs.declared.Session.{Session}
use Rattle.record.specs.declared.Link.TheVariants.{Connected}
use Rattle.record.specs.declared.Station.{Station}
use Rattle.record.specs.declared.Device.{Device}
use Rattle.record.specs.declared.Desk.{Desk}
use Rattle.record.specs.Desk.{with_said}
use Rattle.record.specs.Changes.{device_of}
use Rattle.session.specs.Session.{pends}
use Rattle.station.specs.declared.Turn.{Turn}
use Rattle.station.specs.Station.{resent, awaiting, answers_with}
use Rattle.station.specs.Turns.{saying, pend, ready}
use Rattle.payload.specs.Payloads.{payload_of, result_of}

-- what an indication says is kept until it is acknowledged
unfoldable pub indicates : Station → Session → Alarms → Station
indicates t s a = record { link = Connected (awaiting s Indication); desk = with_said t.desk a }

abbrev pub indicating : Device → Session → Turn
indicating d s = saying (device_of d (indicates d.station s d.antenna.drive.raised) d.antenna) (pend s)

-- "if subscribed and there is something to tell"
unfoldable pub to_tell : Desk → Drive → Bool
to_tell k v = k.subscribed && any_differ v.raised.flags k.told.flags

-- "else, if subscribed and there is something to tell, an alarm indication; else RR"
unfoldable pub idle_poll : Device → Session → Turn
idle_poll d s = cond (to_tell d.station.desk d.antenna.drive) (indicating d s) (saying d (ready s))

-- "else a waiting tilt result"
unfoldable pub waiting_poll : Device → Session → Option Bool → Turn
waiting_poll d s None = idle_poll d s
waiting_poll d s (Some reached) =
    saying
    (device_of d (answers_with d.station s (payload_of (result_of reached))) (moves d.antenna Still))
    (pend s)

-- "RR gets the pending answer"
unfoldable pub poll_of : Device → Session → Turn
poll_of d s = cond (pends s.pending) (saying d (resent s)) (waiting_poll d s (waiting_of d.antenna.motion))
