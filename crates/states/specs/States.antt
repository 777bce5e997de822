-- The three link states. 01, "The link".
--   begun d          == a first session: "All start at 0 and none", the frame limit stays; released d == the session's end
--   renewed d        == a new session after one that ends by it
--   on_snrm d l      == the device d after SNRM in the link state l
--   ua, dm           == what is said of SNRM, and of DISC in a session; what else is said in AddressAssigned
--   rejected d s c w == FRMR for the control c and the reason w: "The link falls to AddressAssigned"
--   informed_by d s n r p, polled_by d s r, paused_by d s r == an I-frame, RR, RNR with the good N(R) = r
--   info_by, rr_by, rnr_by == an I-frame, RR, RNR in the session s, of the control c
--   connected_by d s o c p == in the session s, the order o with its control c and its payload p
--   assigned_by d o, linked_by d l o c p == in AddressAssigned; in the link state l
-- Assumes nothing.
use Rattle.std.specs.Prelude.{Bool, true, false, cond, List, ℕ}
use Rattle.control.specs.declared.Order.{Order}
use Rattle.control.specs.declared.Order.TheVariants.{Xid, Snrm, Disc, Info, Rr, Rnr, Unknown}
use Rattle.record.specs.declared.Pending.TheVariants.{Nothing}
use Rattle.record.specs.declared.Session.{Session}
use Rattle.record.specs.declared.Link.{Link}
use Rattle.record.specs.declared.Link.TheVariants.{NoAddress, AddressAssigned, Connected}
use Rattle.record.specs.declared.Device.{Device}
use Rattle.record.specs.Allowed.{limit_of}
use Rattle.record.specs.Changes.{emptied_as, ended_as}
use Rattle.session.specs.Session.{good_number, counts_of}
use Rattle.station.specs.declared.Say.{Say}
use Rattle.station.specs.declared.Turn.{Turn}
use Rattle.station.specs.Turns.{saying, mute, ready}
use Rattle.acknowledge.specs.Acknowledge.{session_after, acknowledged}
use Rattle.poll.specs.Poll.{poll_of}
use Rattle.inform.specs.Inform.{inform_of}

abbrev pub new_session : Session
new_session = record { r = 0; s = 0; pending = Nothing }

-- a first session, in AddressAssigned: none ends by it, so the frame limit stays, and what an end drops is not there in
-- an allowed record
unfoldable pub begun : Device → Device
begun d = emptied_as d d.station.desk.address (limit_of d) (Connected new_session)

unfoldable pub released : Device → Device
released d = ended_as d d.station.desk.address AddressAssigned

-- in Connected: the session ends, and a new one begins
unfoldable pub renewed : Device → Device
renewed d = begun (released d)

-- "UA 0x73", "DM 0x1F"
abbrev pub ua : Say
ua = Say.Bare 0x73

abbrev pub dm : Say
dm = Say.Bare 0x1F

-- "the control; 2·V(S) + 32·R; 8 for a bad N(R) or 1 for an unknown control. .. The link falls to AddressAssigned"
unfoldable pub rejected : Device → Session → ℕ → ℕ → Turn
rejected d s c w = saying (released d) (Say.Reject c (counts_of s) w)

-- ---- in a session, with N(R) = r

unfoldable pub informed_by : Device → Session → ℕ → ℕ → List ℕ → Turn
informed_by d s n r m = inform_of (acknowledged d s r) (session_after s r) n m

unfoldable pub polled_by : Device → Session → ℕ → Turn
polled_by d s r = poll_of (acknowledged d s r) (session_after s r)

-- "RNR gets RR."
unfoldable pub paused_by : Device → Session → ℕ → Turn
paused_by d s r = saying (acknowledged d s r) (ready (session_after s r))

-- "For I, RR and RNR, N(R) must be S, or S+1 where an answer is pending .. Any other N(R) .. gets FRMR"
unfoldable pub info_by : Device → Session → ℕ → ℕ → ℕ → List ℕ → Turn
info_by d s n r c p = cond (good_number s r) (informed_by d s n r p) (rejected d s c 8)

unfoldable pub rr_by : Device → Session → ℕ → ℕ → Turn
rr_by d s r c = cond (good_number s r) (polled_by d s r) (rejected d s c 8)

unfoldable pub rnr_by : Device → Session → ℕ → ℕ → Turn
rnr_by d s r c = cond (good_number s r) (paused_by d s r) (rejected d s c 8)

-- ---- the three states

-- "Connected: SNRM gets UA and starts a new session; DISC 0x53 gets UA and AddressAssigned." ".. any control but XID, SNRM,
-- DISC, I, RR and RNR, gets FRMR". No XID comes here: the link asks for one first.
unfoldable pub connected_by : Device → Session → Order → ℕ → List ℕ → Turn
connected_by d s Xid c p = mute d
connected_by d s Snrm c p = saying (renewed d) ua
connected_by d s Disc c p = saying (released d) ua
connected_by d s (Info n r) c p = info_by d s n r c p
connected_by d s (Rr r) c p = rr_by d s r c
connected_by d s (Rnr r) c p = rnr_by d s r c
connected_by d s Unknown c p = rejected d s c 1

abbrev pub is_snrm : Order → Bool
is_snrm Xid = false
is_snrm Snrm = true
is_snrm Disc = false
is_snrm (Info n r) = false
is_snrm (Rr r) = false
is_snrm (Rnr r) = false
is_snrm Unknown = false

-- "AddressAssigned: SNRM 0x93 gets UA 0x73 and Connected; anything else gets DM 0x1F." An XID does not come here.
unfoldable pub assigned_by : Device → Order → Turn
assigned_by d o = cond (is_snrm o) (saying (begun d) ua) (saying d dm)

-- SNRM in each state: "AddressAssigned: SNRM 0x93 gets UA 0x73 and Connected", "Connected: SNRM gets UA and starts a new
-- session"
unfoldable pub on_snrm : Device → Link → Device
on_snrm d NoAddress = d
on_snrm d AddressAssigned = begun d
on_snrm d (Connected s) = renewed d

-- a device without an address has no own one: it does not come here
unfoldable pub linked_by : Device → Link → Order → ℕ → List ℕ → Turn
linked_by d NoAddress o c p = mute d
linked_by d AddressAssigned o c p = assigned_by d o
linked_by d (Connected s) o c p = connected_by d s o c p
