-- What a frame may change, part by part, and when exactly: the account that theorems over runs cite. `after d f` is the
-- device after the frame.
--   Answered d f    == f is an accepted I-frame whose message is answered at once
--   Delivers d f b  == f is RR, and collects the waiting result b
--   Tells d f       == f is RR, and gets an alarm indication
--   Acknowledges d f == f has a good N(R) that removes the pending answer
--   Continues d f s t == t is the session s after f: R moved by an acceptance alone, S by an acknowledgement alone
--   Account d f     == what f changes of d
-- Assumes nothing.
use Rattle.std.specs.Prelude.{◌≡◌, Bool, true, List, ℕ, drop, Some, None}
use Rattle.antenna.specs.declared.Motion.TheVariants.{Still, Owing}
use Rattle.antenna.specs.Motions.{waiting_of, unowed_of}
use Rattle.control.specs.Control.{next_of}
use Rattle.control.specs.declared.Order.TheVariants.{Snrm}
use Rattle.record.specs.declared.Pending.{Pending}
use Rattle.record.specs.declared.Pending.TheVariants.{Answer, Indication}
use Rattle.record.specs.Desk.{Payload}
use Rattle.record.specs.declared.Session.{Session}
use Rattle.record.specs.declared.Link.TheVariants.{AddressAssigned, Connected}
use Rattle.record.specs.declared.Device.{Device}
use Rattle.record.specs.Allowed.{limit_of}
use Rattle.record.specs.Desk.{calm, no_reply}
use Rattle.params.specs.Field.{Param, WellFormed}
use Rattle.negotiation.specs.Negotiation.{negotiating, agreed_limit}
use Rattle.payload.specs.Payloads.{payload_of, result_of}
use Rattle.message.specs.Messages.{asked_of}
use Rattle.message.specs.Carried.{payload_in}
use Rattle.acknowledge.specs.Acknowledge.{station_after, acknowledged}
use Rattle.poll.specs.Poll.{to_tell}
use Rattle.inform.specs.Inform.{carried_here}
use Rattle.states.specs.States.{new_session}
use Rattle.link.specs.Frames.{Own, OwnXid}
use Rattle.conduct.specs.Conduct.{after, Accepted, AnyAccepted, Acknowledging, TiltDue}
use Rattle.conduct.specs.Endings.{pending_in, Assigns, Begins, Ends, Drops, Dropped, Collects}
use Rattle.conduct.specs.Alarms.{Clears, Subscribes, Indicated}

-- "its message is carried out", and answered
pub record Answered (d : Device) (f : List ℕ) : Type 0 where
  pub session : Session
  pub ns : ℕ
  pub nr : ℕ
  pub frame : Accepted d f session ns nr
  pub payload : Payload
  pub answers : (carried_here (acknowledged d session nr) (drop 2 f)).reply ≡ Some payload

-- "else a waiting tilt result"
pub record Delivers (d : Device) (f : List ℕ) (reached : Bool) : Type 0 where
  pub collects : Collects d f
  pub waits : waiting_of d.antenna.motion ≡ Some reached

-- "else, if subscribed and there is something to tell, an alarm indication"
pub record Tells (d : Device) (f : List ℕ) : Type 0 where
  pub collects : Collects d f
  pub idle : waiting_of d.antenna.motion ≡ None
  pub news : to_tell (station_after d.station collects.session collects.nr).desk d.antenna.drive ≡ true

abbrev pub Acknowledges : Device → List ℕ → Type 0
Acknowledges d f = (s : Session) × Acknowledging d f s

-- the session t after the frame f, where f does not end the session s
pub record Continues (d : Device) (f : List ℕ) (s t : Session) : Type 0 where
  -- "an I-frame with N(S) = R and nothing pending is accepted: R moves on"
  pub accepted : AnyAccepted d f s → t.r ≡ next_of s.r
  pub unaccepted : (AnyAccepted d f s → ⊥) → t.r ≡ s.r
  -- "S+1 where an answer is pending, which removes it and moves S on"
  pub acknowledged : Acknowledging d f s → t.s ≡ next_of s.s
  pub unacknowledged : (Acknowledging d f s → ⊥) → t.s ≡ s.s

pub record Account (d : Device) (f : List ℕ) : Type 0 where
  -- fixed data, range and tilt: no frame changes them
  pub plate : (after d f).plate ≡ d.plate
  pub lowest : (after d f).antenna.drive.lowest ≡ d.antenna.drive.lowest
  pub highest : (after d f).antenna.drive.highest ≡ d.antenna.drive.highest
  pub tilt : (after d f).antenna.drive.tilt ≡ d.antenna.drive.tilt
  -- "the address is taken": at a matching assignment, and else never
  pub address-taken : (a : ℕ) → Assigns d f a → (after d f).station.desk.address ≡ a
  pub address_kept : ((a : ℕ) → Assigns d f a → ⊥) → (after d f).station.desk.address ≡ d.station.desk.address
  -- 02 (iv): the frame limit is 78 "again after an assignment or a session's end", the one agreed on after a negotiation,
  -- and else as it was
  pub limit-assigned : (a : ℕ) → Assigns d f a → limit_of (after d f) ≡ 78
  pub limit-ended : Ends d f → limit_of (after d f) ≡ 78
  pub limit-agreed : (ps : List Param) → OwnXid d f → WellFormed negotiating (drop 2 f) ps
      → limit_of (after d f) ≡ agreed_limit (limit_of d) ps
  pub limit-kept : ((a : ℕ) → Assigns d f a → ⊥) → (Ends d f → ⊥)
      → (OwnXid d f → (ps : List Param) → WellFormed negotiating (drop 2 f) ps → ⊥) → limit_of (after d f) ≡ limit_of d
  -- the link state
  pub link-assigned : (a : ℕ) → Assigns d f a → (after d f).station.link ≡ AddressAssigned
  pub link-begun : Begins d f → (after d f).station.link ≡ Connected new_session
  pub link-renewed : (s : Session) → d.station.link ≡ Connected s → Own d f Snrm
      → (after d f).station.link ≡ Connected new_session
  pub link-ended : Ends d f → (Own d f Snrm → ⊥) → (after d f).station.link ≡ AddressAssigned
  pub link-counted : (s : Session) → d.station.link ≡ Connected s → (Ends d f → ⊥)
      → (t : Session) × ((after d f).station.link ≡ Connected t) × Continues d f s t
  pub link-kept : ((s : Session) → d.station.link ≡ Connected s → ⊥) → (Drops d f → ⊥)
      → (after d f).station.link ≡ d.station.link
  -- "raised and told become empty"; no other message, and no other frame, changes what is raised
  pub raised-cleared : Clears d f → (after d f).antenna.drive.raised ≡ calm
  pub raised-kept : (Clears d f → ⊥) → (after d f).antenna.drive.raised ≡ d.antenna.drive.raised
  -- "Told is updated when the indication is acknowledged, to what it said"; clear alarms in the same frame wins
  pub told-cleared : Clears d f → (after d f).station.desk.told ≡ calm
  pub told-updated : (Clears d f → ⊥) → Indicated d f → (after d f).station.desk.told ≡ d.station.desk.said
  pub told-kept : (Clears d f → ⊥) → (Indicated d f → ⊥) → (after d f).station.desk.told ≡ d.station.desk.told
  -- "0x12 subscribe"
  pub subscribed-on : Subscribes d f → (after d f).station.desk.subscribed ≡ true
  pub subscribed-kept : (Subscribes d f → ⊥) → (after d f).station.desk.subscribed ≡ d.station.desk.subscribed
  -- the motion: a tilt that is due starts it; a waiting result that is collected waits no more; an end drops what is owed
  pub motion-started : TiltDue d f
      → (d.antenna.motion ≡ Still) × ((after d f).antenna.motion ≡ Owing (asked_of (drop 2 f)))
  pub motion-delivered : (reached : Bool) → Delivers d f reached → (after d f).antenna.motion ≡ Still
  pub motion-dropped : Drops d f → (after d f).antenna.motion ≡ unowed_of d.antenna.motion
  pub motion-kept : (TiltDue d f → ⊥) → ((reached : Bool) → Delivers d f reached → ⊥) → (Drops d f → ⊥)
      → (after d f).antenna.motion ≡ d.antenna.motion
  -- what is pending, with its reply and what it said: an end, a first SNRM or an assignment leaves none of them
  pub dropped : Drops d f → Dropped (after d f)
  -- an answer, a result and an indication that are sent become pending
  pub answered : (w : Answered d f) → (pending_in (after d f).station.link ≡ Answer)
      × ((after d f).station.desk.reply ≡ payload_in (carried_here (acknowledged d w.session w.nr) (drop 2 f)))
      × ((after d f).station.desk.said ≡ (station_after d.station w.session w.nr).desk.said)
  pub delivered : (reached : Bool) (w : Delivers d f reached) → (pending_in (after d f).station.link ≡ Answer)
      × ((after d f).station.desk.reply ≡ payload_of (result_of reached))
      × ((after d f).station.desk.said ≡ (station_after d.station w.collects.session w.collects.nr).desk.said)
  pub told_of : (w : Tells d f) → (pending_in (after d f).station.link ≡ Indication)
      × ((after d f).station.desk.said ≡ d.antenna.drive.raised)
      × ((after d f).station.desk.reply ≡ (station_after d.station w.collects.session w.collects.nr).desk.reply)
  -- an acknowledgement removes it, where nothing else is sent; and in no other way does it change
  pub removed : Acknowledges d f → (Answered d f → ⊥) → ((reached : Bool) → Delivers d f reached → ⊥)
      → (Tells d f → ⊥)
      → (pending_in (after d f).station.link ≡ Pending.Nothing) × ((after d f).station.desk.reply ≡ no_reply)
      × ((after d f).station.desk.said ≡ calm)
  pub pending-kept : (Acknowledges d f → ⊥) → (Answered d f → ⊥) → ((reached : Bool) → Delivers d f reached → ⊥)
      → (Tells d f → ⊥) → (Drops d f → ⊥)
      → (pending_in (after d f).station.link ≡ pending_in d.station.link)
      × ((after d f).station.desk.reply ≡ d.station.desk.reply) × ((after d f).station.desk.said ≡ d.station.desk.said)
