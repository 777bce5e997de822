-- The words of the theorems about a device and the frames that it judges.
--   after d f     == the device d after the frame f
--   starts d f    == judging f starts a movement
--   Accepted d f s n r == f is an I-frame with N(S) = n and N(R) = r that the session s of d accepts
--   AnyAccepted d f s, Acknowledging d f s == the session s of d accepts f; f acknowledges its pending answer
--   TiltDue d f   == f is an accepted I-frame with the message 33 02 00 lo hi, in range, and nothing moves or waits
--   moved_on s r, TiltStarted d f s r == the session and the device after such a frame
--   occurs d e, occur_all d es == d after the event e; after all of es, in their order
--   meets d m, run d ms == d after the frame or event m; after all of ms
-- Assumes nothing.
use Rattle.std.specs.Prelude.{◌≡◌, Bool, true, not, ◌&&◌, List, [], ◌∷◌, ℕ, drop, Ok}
use Rattle.std.proofs.Math.Option.{some}
use Rattle.refusal.specs.Answer.{state_after}
use Rattle.control.specs.Control.{next_of}
use Rattle.control.specs.declared.Order.{Order}
use Rattle.control.specs.declared.Order.TheVariants.{Info}
use Rattle.antenna.specs.Motions.{runs, started}
use Rattle.record.specs.declared.Pending.TheVariants.{Nothing}
use Rattle.record.specs.declared.Session.{Session}
use Rattle.record.specs.declared.Link.TheVariants.{Connected}
use Rattle.record.specs.declared.Device.{Device}
use Rattle.record.specs.declared.Event.{Event}
use Rattle.record.specs.Changes.{happened}
use Rattle.session.specs.Session.{acknowledges, accepts}
use Rattle.inform.specs.Inform.{heeded}
use Rattle.acknowledge.specs.Acknowledge.{session_after, station_after}
use Rattle.message.specs.Messages.{asked_of, Due}
use Rattle.station.specs.Turns.{ready}
use Rattle.link.specs.Link.{judged_frame}
use Rattle.link.specs.Frames.{number_in, Numbered}

abbrev pub after : Device → List ℕ → Device
after d f = (judged_frame d f).device

unfoldable pub starts : Device → List ℕ → Bool
starts d f = not (runs d.antenna.motion) && runs (after d f).antenna.motion

-- "After a good N(R): an I-frame with N(S) = R and nothing pending is accepted"
pub record Accepted (d : Device) (f : List ℕ) (s : Session) (n r : ℕ) : Type 0 where
  pub numbered : Numbered d f (Info n r) r s
  pub accepted : accepts (session_after s r) n ≡ true

abbrev pub AnyAccepted : Device → List ℕ → Session → Type 0
AnyAccepted d f s = (n : ℕ) × (r : ℕ) × Accepted d f s n r

-- "S+1 where an answer is pending, which removes it and moves S on"
pub record Acknowledging (d : Device) (f : List ℕ) (s : Session) : Type 0 where
  pub order : Order
  pub nr : ℕ
  pub number : number_in order ≡ some nr
  pub numbered : Numbered d f order nr s
  pub behind : acknowledges s nr ≡ true

pub record TiltDue (d : Device) (f : List ℕ) : Type 0 where
  pub session : Session
  pub ns : ℕ
  pub nr : ℕ
  pub frame : Accepted d f session ns nr
  pub message : Due d.antenna (drop 2 f)

-- the session after: "R moves on", and nothing is pending
abbrev pub moved_on : Session → ℕ → Session
moved_on s r = record { r = next_of s.r; s = (session_after s r).s; pending = Nothing }

-- "Set tilt is answered RR at once": what the frame f leaves of d, in its session s, with N(R) = r
pub record TiltStarted (d : Device) (f : List ℕ) (s : Session) (r : ℕ) : Type 0 where
  pub plate : (after d f).plate ≡ d.plate
  pub antenna : (after d f).antenna ≡ started d.antenna (asked_of (drop 2 f)) (Ok tt)
  pub link : (after d f).station.link ≡ Connected (moved_on s r)
  pub station : (after d f).station
      ≡ heeded (station_after d.station s r) (moved_on s r) (station_after d.station s r).desk.told
      d.station.desk.subscribed
  pub said : (judged_frame d f).say ≡ ready (moved_on s r)

-- an event that is refused leaves the device as it was
abbrev pub occurs : Device → Event → Device
occurs d e = state_after (happened d e) d

unfoldable pub occur_all : Device → List Event → Device
occur_all d [] = d
occur_all d (e ∷ es) = occur_all (occurs d e) es

-- what a device meets
pub data Meeting : Type 0 where
  frame : List ℕ → Meeting
  event : Event → Meeting

unfoldable pub meets : Device → Meeting → Device
meets d (frame f) = after d f
meets d (event e) = occurs d e

unfoldable pub run : Device → List Meeting → Device
run d [] = d
run d (m ∷ ms) = run (meets d m) ms
