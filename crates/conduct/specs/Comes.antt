-- What comes of a frame, whole: 01, "The link", and 02 (iv), case by case. Every frame is one of these to a device, whatever the
-- record (proofs/Comes.antt), and each says which device the frame leaves, and what is said.
--   Comes d f    == what the frame f is to the device d
--   unanswered_as d s r n told sub, answered_as d s r n told sub b == d after a message that was accepted in its
--                   session s with N(R) = r: the antenna, what was told and the subscription as the message leaves
--                   them, and the answer b
--   left d f c   == the device after it; says d f c == what it says
-- Assumes nothing.
use Rattle.std.specs.Prelude.{◌≡◌, Bool, true, false, List, [], ◌∷◌, ℕ, ◌<◌, length, drop, Some, None}
use Rattle.std.proofs.Math.Option.{some}
use Rattle.antenna.specs.declared.Alarms.{Alarms}
use Rattle.antenna.specs.declared.Antenna.{Antenna}
use Rattle.antenna.specs.declared.Motion.TheVariants.{Still, Owing}
use Rattle.antenna.specs.Motions.{waiting_of, moves}
use Rattle.control.specs.declared.Order.{Order}
use Rattle.control.specs.declared.Order.TheVariants.{Snrm, Disc, Info, Rr, Rnr, Unknown}
use Rattle.record.specs.declared.Session.{Session}
use Rattle.record.specs.declared.Link.TheVariants.{AddressAssigned, Connected}
use Rattle.record.specs.declared.Device.{Device}
use Rattle.record.specs.Allowed.{identity_of, limit_of}
use Rattle.record.specs.Changes.{device_of, ended_as, limited_to}
use Rattle.record.specs.Desk.{calm}
use Rattle.session.specs.Session.{pends, good_number, accepts, taken, counts_of}
use Rattle.payload.specs.Payloads.{payload_of, success_of, result_of}
use Rattle.message.specs.Messages.{asked_of, Due}
use Rattle.message.specs.Carried.{replies, quieted}
use Rattle.params.specs.Field.{Param, WellFormed}
use Rattle.negotiation.specs.Negotiation.{negotiating, agreed_limit, asked_in}
use Rattle.xid.specs.Meaning.{Answers}
use Rattle.station.specs.declared.Say.{Say}
use Rattle.station.specs.Station.{answers_with, resent}
use Rattle.station.specs.Turns.{pend, ready}
use Rattle.acknowledge.specs.Acknowledge.{session_after, station_after, acknowledged}
use Rattle.poll.specs.Poll.{to_tell}
use Rattle.poll.specs.Poll as poll
use Rattle.inform.specs.Inform.{heeded, carried_here}
use Rattle.states.specs.States.{begun, renewed, released, ua, dm, is_snrm}
use Rattle.link.specs.Frames.{control_of, Own, number_in, Numbered, Everyone, OwnXid, Unread}
use Rattle.conduct.specs.Conduct.{Accepted}
use Rattle.conduct.specs.Endings.{Assigns}

pub data Comes (d : Device) (f : List ℕ) : Type 0 where
  unread : Unread d f → Comes d f
  -- "Scan: .. Answer, in any state"
  scans : Everyone d f → Answers (identity_of d.plate) (drop 2 f) → Comes d f
  -- "Then any session ends, the address is taken, the state is AddressAssigned"
  assigns : (a : ℕ) → Assigns d f a → Comes d f
  -- 02 (iv): "A master sends XID to the device's own address with the HDLC parameters of ISO/IEC 13239 and the device answers"
  negotiates : (ps : List Param) → OwnXid d f → WellFormed negotiating (drop 2 f) ps → Comes d f
  -- "AddressAssigned: SNRM 0x93 gets UA 0x73 and Connected; anything else gets DM 0x1F."
  begins : Own d f Snrm → d.station.link ≡ AddressAssigned → Comes d f
  declines : (o : Order) → Own d f o → is_snrm o ≡ false → d.station.link ≡ AddressAssigned → Comes d f
  -- "Connected: SNRM gets UA and starts a new session; DISC 0x53 gets UA and AddressAssigned."
  renews : (s : Session) → Own d f Snrm → d.station.link ≡ Connected s → Comes d f
  leaves : (s : Session) → Own d f Disc → d.station.link ≡ Connected s → Comes d f
  -- "Any other N(R), and any control but XID, SNRM, DISC, I, RR and RNR, gets FRMR .. 8 for a bad N(R) or 1 for an
  -- unknown control"
  miscounts : (s : Session) (o : Order) (r : ℕ) → Own d f o → d.station.link ≡ Connected s → number_in o ≡ some r
      → good_number s r ≡ false → Comes d f
  unknown : (s : Session) → Own d f Unknown → d.station.link ≡ Connected s → Comes d f
  -- "an I-frame with N(S) = R and nothing pending is accepted: R moves on and its message is carried out": a set tilt
  -- that is due; clear alarms; subscribe; a message that is answered and changes nothing; one "shorter than 3, no answer"
  starts : (s : Session) (n r : ℕ) → Accepted d f s n r → Due d.antenna (drop 2 f) → Comes d f
  clears : (s : Session) (n r : ℕ) → Accepted d f s n r → drop 2 f ≡ 0x06 ∷ 0 ∷ 0 ∷ [] → Comes d f
  subscribes : (s : Session) (n r : ℕ) → Accepted d f s n r → drop 2 f ≡ 0x12 ∷ 0 ∷ 0 ∷ [] → Comes d f
  answers : (s : Session) (n r : ℕ) (b : List ℕ) → Accepted d f s n r
      → carried_here (acknowledged d s r) (drop 2 f)
      ≡ replies b d.antenna (station_after d.station s r).desk.told d.station.desk.subscribed
      → Comes d f
  murmurs : (s : Session) (n r : ℕ) → Accepted d f s n r → length (drop 2 f) < 3 → Comes d f
  -- "Any other isn't carried out and moves nothing; it gets the pending answer again, else RR with N(R) = R."
  repeats : (s : Session) (n r : ℕ) → Numbered d f (Info n r) r s → accepts (session_after s r) n ≡ false → Comes d f
  -- "RR gets the pending answer; else a waiting tilt result; else, if subscribed and there is something to tell, an
  -- alarm indication; else RR."
  resends : (s : Session) (r : ℕ) → Numbered d f (Rr r) r s → pends (session_after s r).pending ≡ true → Comes d f
  delivers : (s : Session) (r : ℕ) (reached : Bool) → Numbered d f (Rr r) r s
      → pends (session_after s r).pending ≡ false → waiting_of d.antenna.motion ≡ Some reached → Comes d f
  indicates : (s : Session) (r : ℕ) → Numbered d f (Rr r) r s → pends (session_after s r).pending ≡ false
      → waiting_of d.antenna.motion ≡ None → to_tell (station_after d.station s r).desk d.antenna.drive ≡ true
      → Comes d f
  rests : (s : Session) (r : ℕ) → Numbered d f (Rr r) r s → pends (session_after s r).pending ≡ false
      → waiting_of d.antenna.motion ≡ None → to_tell (station_after d.station s r).desk d.antenna.drive ≡ false
      → Comes d f
  -- "RNR gets RR."
  pauses : (s : Session) (r : ℕ) → Numbered d f (Rnr r) r s → Comes d f

-- ---- the device after it

-- after an accepted I-frame with N(R) = r: "R moves on", with the antenna n, what was told and the subscription; an
-- answer b becomes pending, too
abbrev pub unanswered_as : Device → Session → ℕ → Antenna → Alarms → Bool → Device
unanswered_as d s r n told sub =
    device_of d (heeded (station_after d.station s r) (taken (session_after s r)) told sub) n

abbrev pub answered_as : Device → Session → ℕ → Antenna → Alarms → Bool → List ℕ → Device
answered_as d s r n told sub b =
    let t = taken (session_after s r) in
    device_of d (answers_with (heeded (station_after d.station s r) t told sub) t (payload_of b)) n

unfoldable pub left : (d : Device) (f : List ℕ) → Comes d f → Device
left d f (unread w) = d
left d f (scans w a) = d
left d f (assigns a w) = ended_as d a AddressAssigned
left d f (negotiates ps w m) = limited_to d (agreed_limit (limit_of d) ps)
left d f (begins w l) = begun d
left d f (declines o w n l) = d
left d f (renews s w l) = renewed d
left d f (leaves s w l) = released d
left d f (miscounts s o r w l n b) = released d
left d f (unknown s w l) = released d
left d f (starts s n r w due) =
    unanswered_as d s r (moves d.antenna (Owing (asked_of (drop 2 f)))) (station_after d.station s r).desk.told
    d.station.desk.subscribed
left d f (clears s n r w m) = answered_as d s r (quieted d.antenna) calm d.station.desk.subscribed (success_of 0x06 [])
left d f (subscribes s n r w m) =
    answered_as d s r d.antenna (station_after d.station s r).desk.told true (success_of 0x12 [])
left d f (answers s n r b w e) =
    answered_as d s r d.antenna (station_after d.station s r).desk.told d.station.desk.subscribed b
left d f (murmurs s n r w h) =
    unanswered_as d s r d.antenna (station_after d.station s r).desk.told d.station.desk.subscribed
left d f (repeats s n r w a) = acknowledged d s r
left d f (resends s r w p) = acknowledged d s r
left d f (delivers s r reached w p q) =
    device_of d (answers_with (station_after d.station s r) (session_after s r) (payload_of (result_of reached)))
    (moves d.antenna Still)
left d f (indicates s r w p q t) =
    device_of d (poll.indicates (station_after d.station s r) (session_after s r) d.antenna.drive.raised) d.antenna
left d f (rests s r w p q t) = acknowledged d s r
left d f (pauses s r w) = acknowledged d s r

-- ---- what is said

unfoldable pub says : (d : Device) (f : List ℕ) → Comes d f → Say
says d f (unread w) = Say.Silence
says d f (scans w a) = Say.Scanned
says d f (assigns a w) = Say.Assigned
says d f (negotiates ps w m) = Say.Negotiated (asked_in ps)
says d f (begins w l) = ua
says d f (declines o w n l) = dm
says d f (renews s w l) = ua
says d f (leaves s w l) = ua
says d f (miscounts s o r w l n b) = Say.Reject (control_of f) (counts_of s) 8
says d f (unknown s w l) = Say.Reject (control_of f) (counts_of s) 1
says d f (starts s n r w due) = ready (taken (session_after s r))
says d f (clears s n r w m) = pend (taken (session_after s r))
says d f (subscribes s n r w m) = pend (taken (session_after s r))
says d f (answers s n r b w e) = pend (taken (session_after s r))
says d f (murmurs s n r w h) = ready (taken (session_after s r))
says d f (repeats s n r w a) = resent (session_after s r)
says d f (resends s r w p) = pend (session_after s r)
says d f (delivers s r reached w p q) = pend (session_after s r)
says d f (indicates s r w p q t) = pend (session_after s r)
says d f (rests s r w p q t) = ready (session_after s r)
says d f (pauses s r w) = ready (session_after s r)
