-- What ends a session, and what a waiting result waits for. 01, "The link": "Ending a session drops the pending answer
-- and any tilt result owed; alarms, subscription and a running movement stay."
--   pending_in l  == what is pending in the link state l
--   Assigns d f a == f is an assignment of the address a that d takes
--   Begins d f    == f is a first SNRM: no session ends by it
--   Ends d f      == f ends the session of d: it is SNRM, DISC, a frame with a bad N(R) or an unknown control, which
--                    gets FRMR, or an assignment that d takes; ended_by d f e == the device that its case e leaves
--   Drops d f     == f ends a session, is a first SNRM, or an assignment that d takes, with a session or without
--   Dropped e     == in the device e nothing is pending and no tilt result is owed
--   Survives d e  == alarms, what was told, subscription, range, tilt and a running movement of d are in e as well
--   Collects d f  == f is RR with a good N(R) that leaves nothing pending in d
-- Assumes nothing.
use Rattle.std.specs.Prelude.{◌≡◌, false, List, ◌⊎◌, ℕ, drop}
use Rattle.std.proofs.Math.Option.{some}
use Rattle.control.specs.declared.Order.{Order}
use Rattle.control.specs.declared.Order.TheVariants.{Snrm, Disc, Rr, Unknown}
use Rattle.antenna.specs.Motions.{runs, owes_of}
use Rattle.record.specs.declared.Pending.{Pending}
use Rattle.record.specs.declared.Pending.TheVariants.{Nothing}
use Rattle.record.specs.declared.Session.{Session}
use Rattle.record.specs.declared.Link.{Link}
use Rattle.record.specs.declared.Link.TheVariants.{NoAddress, AddressAssigned, Connected}
use Rattle.record.specs.declared.Device.{Device}
use Rattle.record.specs.Allowed.{identity_of}
use Rattle.record.specs.Changes.{ended_as}
use Rattle.record.specs.Desk.{calm, no_reply}
use Rattle.session.specs.Session.{pends, good_number}
use Rattle.xid.specs.Meaning.{Takes}
use Rattle.acknowledge.specs.Acknowledge.{session_after}
use Rattle.states.specs.States.{renewed, released}
use Rattle.link.specs.Frames.{Own, number_in, Numbered, Everyone}

abbrev pub pending_in : Link → Pending
pending_in NoAddress = Nothing
pending_in AddressAssigned = Nothing
pending_in (Connected s) = s.pending

-- "Assignment: 2 present, 3 absent, value 1 to 254. .. Then any session ends, the address is taken"
pub record Assigns (d : Device) (f : List ℕ) (a : ℕ) : Type 0 where
  pub everyone : Everyone d f
  pub takes : Takes (identity_of d.plate) (drop 2 f) a

-- "AddressAssigned: SNRM 0x93 gets UA 0x73 and Connected"
pub record Begins (d : Device) (f : List ℕ) : Type 0 where
  pub own : Own d f Snrm
  pub link : d.station.link ≡ AddressAssigned

pub data Ends (d : Device) (f : List ℕ) : Type 0 where
  -- "Connected: SNRM gets UA and starts a new session; DISC 0x53 gets UA and AddressAssigned."
  renews : (s : Session) → Own d f Snrm → d.station.link ≡ Connected s → Ends d f
  leaves : (s : Session) → Own d f Disc → d.station.link ≡ Connected s → Ends d f
  -- "Any other N(R), and any control but XID, SNRM, DISC, I, RR and RNR, gets FRMR"
  miscounts : (s : Session) (o : Order) (r : ℕ) → Own d f o → d.station.link ≡ Connected s → number_in o ≡ some r
      → good_number s r ≡ false → Ends d f
  unknown : (s : Session) → Own d f Unknown → d.station.link ≡ Connected s → Ends d f
  -- "Then any session ends"
  assigns : (s : Session) (a : ℕ) → Assigns d f a → d.station.link ≡ Connected s → Ends d f

-- the device after it: "starts a new session"; "AddressAssigned"; "The link falls to AddressAssigned"; "the address is
-- taken, the state is AddressAssigned"
unfoldable pub ended_by : (d : Device) (f : List ℕ) → Ends d f → Device
ended_by d f (renews s w l) = renewed d
ended_by d f (leaves s w l) = released d
ended_by d f (miscounts s o r w l n b) = released d
ended_by d f (unknown s w l) = released d
ended_by d f (assigns s a w l) = ended_as d a AddressAssigned

abbrev pub Drops : Device → List ℕ → Type 0
Drops d f = Ends d f ⊎ (Begins d f ⊎ ((a : ℕ) × Assigns d f a))

pub record Dropped (e : Device) : Type 0 where
  pub pending : pending_in e.station.link ≡ Nothing
  pub reply : e.station.desk.reply ≡ no_reply
  pub said : e.station.desk.said ≡ calm
  pub owed : owes_of e.antenna.motion ≡ false

pub record Survives (d e : Device) : Type 0 where
  pub raised : e.antenna.drive.raised ≡ d.antenna.drive.raised
  pub told : e.station.desk.told ≡ d.station.desk.told
  pub subscribed : e.station.desk.subscribed ≡ d.station.desk.subscribed
  pub lowest : e.antenna.drive.lowest ≡ d.antenna.drive.lowest
  pub highest : e.antenna.drive.highest ≡ d.antenna.drive.highest
  pub tilt : e.antenna.drive.tilt ≡ d.antenna.drive.tilt
  pub running : runs e.antenna.motion ≡ runs d.antenna.motion

pub record Collects (d : Device) (f : List ℕ) : Type 0 where
  pub session : Session
  pub nr : ℕ
  pub numbered : Numbered d f (Rr nr) nr session
  pub free : pends (session_after session nr).pending ≡ false
