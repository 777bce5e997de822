-- The frame that a device says. 01, "The link": "Answers carry the device's address (0 in NoAddress)".
--   pending_octets k p == the payload of what is pending at the desk k, p; link_octets k l == in the link state l
--   is_silent x        == x is silence; control_by x == the control of what is said; payload_by d x == its payload
--   frame_by d x       == address, control and payload, where the device d says x; none for silence
--   spoken_most        == 76: the most octets of a frame that is said, address, control and the longest payload
--   spoken_of f        == the frame f, as the code hands it over
-- Assumes nothing.
use Rattle.std.specs.Prelude.{Bool, true, false, cond, List, [], ◌∷◌, ℕ, ◌+◌, length}
use Rattle.std.proofs.Math.Option.{Option, none, some}
use Rattle.octets.specs.Text.{content, laid}
use Rattle.octets.specs.declared.Text.{Text}
use Rattle.std.specs.Prelude as Spoken
use Rattle.control.specs.Control.{xid_control}
use Rattle.record.specs.declared.Pending.{Pending}
use Rattle.record.specs.declared.Pending.TheVariants.{Nothing, Answer, Indication}
use Rattle.record.specs.declared.Link.{Link}
use Rattle.record.specs.declared.Link.TheVariants.{NoAddress, AddressAssigned, Connected}
use Rattle.record.specs.declared.Desk.{Desk}
use Rattle.record.specs.declared.Device.{Device}
use Rattle.record.specs.Desk.{Payload}
use Rattle.record.specs.Allowed.{reply_most, identity_of, limit_of}
use Rattle.report.specs.Reports.{indication_of}
use Rattle.xid_answer.specs.Answer.{scan_answer, assignment_answer, negotiation_answer}
use Rattle.station.specs.declared.Say.{Say}
use Rattle.station.specs.declared.Say.TheVariants.{Silence, Bare, Reject, Pend, Scanned, Assigned, Negotiated}

-- the octets of a payload: as many as its length says, as far as they go
abbrev pub octets_held : Payload → List ℕ
octets_held = content

unfoldable pub pending_octets : Desk → Pending → List ℕ
pending_octets k Nothing = []
pending_octets k Answer = octets_held k.reply
pending_octets k Indication = indication_of k.said k.told

-- only a session has something pending
unfoldable pub link_octets : Desk → Link → List ℕ
link_octets k NoAddress = []
link_octets k AddressAssigned = []
link_octets k (Connected s) = pending_octets k s.pending

abbrev pub is_silent : Say → Bool
is_silent Silence = true
is_silent (Bare c) = false
is_silent (Reject c v w) = false
is_silent (Pend c) = false
is_silent Scanned = false
is_silent Assigned = false
is_silent (Negotiated a) = false

-- "FRMR 0x97"; "Answers have control 0xBF"
unfoldable pub control_by : Say → ℕ
control_by Silence = 0
control_by (Bare c) = c
control_by (Reject c v w) = 0x97
control_by (Pend c) = c
control_by Scanned = xid_control
control_by Assigned = xid_control
control_by (Negotiated a) = xid_control

-- "three payload octets: the control; 2·V(S) + 32·R; 8 .. or 1"
unfoldable pub payload_by : Device → Say → List ℕ
payload_by d Silence = []
payload_by d (Bare c) = []
payload_by d (Reject c v w) = c ∷ v ∷ w ∷ []
payload_by d (Pend c) = link_octets d.station.desk d.station.link
payload_by d Scanned = scan_answer (identity_of d.plate) d.station.desk.address
payload_by d Assigned = assignment_answer (identity_of d.plate)
payload_by d (Negotiated a) = negotiation_answer a (limit_of d)

unfoldable pub frame_by : Device → Say → Option (List ℕ)
frame_by d x = cond (is_silent x) none (some (d.station.desk.address ∷ control_by x ∷ payload_by d x))

-- no answer is longer than the longest pending one, whatever the frame limit
abbrev pub spoken_most : ℕ
spoken_most = reply_most + 2

-- at the start of as many zeros as a frame that is said has octets at most; silence is no frame
unfoldable pub spoken_of : Option (List ℕ) → Spoken.Option (Text spoken_most)
spoken_of none = Spoken.None
spoken_of (some f) = Spoken.Some (laid spoken_most f)
