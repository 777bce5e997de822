-- An I-frame in a session. 01, "The link": "After a good N(R): ..".
--   heeded t s told sub == the station t in its session s, after a message; heed_of d s c == the device d
--   carried_here d m  == what comes of the message m; carried_by d s c == what is said of it
--   inform_of d s n m == an I-frame with N(S) = n and the message m, the acknowledged answer being removed
-- Assumes nothing.
use Rattle.std.specs.Prelude.{Bool, cond, List, ℕ, Option, Some, None}
use Rattle.antenna.specs.declared.Alarms.{Alarms}
use Rattle.record.specs.Desk.{Payload}
use Rattle.record.specs.declared.Session.{Session}
use Rattle.record.specs.declared.Link.TheVariants.{Connected}
use Rattle.record.specs.declared.Station.{Station}
use Rattle.record.specs.declared.Device.{Device}
use Rattle.record.specs.Desk.{with_subscription, with_told}
use Rattle.record.specs.Changes.{device_of}
use Rattle.session.specs.Session.{accepts, taken}
use Rattle.station.specs.declared.Turn.{Turn}
use Rattle.station.specs.Station.{resent, answers_with}
use Rattle.station.specs.Turns.{saying, pend, ready}
use Rattle.message.specs.Carried.{carried_of}
use Rattle.message.specs.declared.Carried.{Carried}

-- what is told and the subscription are as the message leaves them
unfoldable pub heeded : Station → Session → Alarms → Bool → Station
heeded t s told sub = record { link = Connected s; desk = with_told (with_subscription t.desk sub) told }

abbrev pub heed_of : Device → Session → Carried → Device
heed_of d s c = device_of d (heeded d.station s c.told c.subscribed) c.antenna

abbrev pub carried_here : Device → List ℕ → Carried
carried_here d m = carried_of d.plate d.antenna d.station.desk.told d.station.desk.subscribed m

-- an answer is pending from now on; no answer: "RR is sent", "Set tilt is answered RR at once"
unfoldable pub replied_by : Device → Session → Carried → Option Payload → Turn
replied_by d s c None = saying (heed_of d s c) (ready s)
replied_by d s c (Some q) =
    saying
    (device_of d (answers_with (heeded d.station s c.told c.subscribed) s q) c.antenna)
    (pend s)

unfoldable pub carried_by : Device → Session → Carried → Turn
carried_by d s c = replied_by d s c c.reply

-- "an I-frame with N(S) = R and nothing pending is accepted: R moves on and its message is carried out. Any other isn't
-- carried out and moves nothing; it gets the pending answer again, else RR with N(R) = R."
unfoldable pub inform_of : Device → Session → ℕ → List ℕ → Turn
inform_of d s n m = cond (accepts s n) (carried_by d (taken s) (carried_here d m)) (saying d (resent s))
