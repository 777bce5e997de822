-- The payloads of the answers. 01, "XID: scan and assignment", and 02 (iv). i are the octets of the identity, unpadded.
--   scan_params i a     == the parameters of the answer to a scan, from the address a; scan_answer i a == its payload
--   assignment_params i == those of the answer to an assignment; assignment_answer i == its payload
--   if_asked b p ps     == the parameter p, where it was asked, in front of ps
--   length_value N      == the I-field length of the frame limit N, in bits, as two octets;
--                          window_value == a window of 1
--   negotiation_params a N == the parameters of the answer to a negotiation that asked a, with the frame limit N;
--                          negotiation_answer a N == its payload
--   opening o k         == the three octets before the triples, of the group's octet o, with the length k
-- Assumes nothing.
use Rattle.std.specs.Prelude.{Bool, cond, List, [], ◌∷◌, ℕ, ◌*◌}
use Rattle.octets.specs.Octets.{low_of, high_of}
use Rattle.limits.specs.Limits.{payload_most}
use Rattle.control.specs.declared.AskedFor.{AskedFor}
use Rattle.negotiation.specs.Negotiation.{sent_id, received_id, sending_id, receiving_id, negotiating}
use Rattle.params.specs.Field.{Param, ◌is◌, format, xid_payload}
use Rattle.xid.specs.Addressing.{identity_id, address_id, kind_id, addressing}
use Rattle.xid.specs.Match.{device_type}

-- "Answer, in any state: 1 (unpadded, n octets), 2, 4 in that order"
unfoldable pub scan_params : List ℕ → ℕ → List Param
scan_params i a = identity_id is i ∷ address_id is (a ∷ []) ∷ kind_id is (device_type ∷ []) ∷ []

-- "the answer from the new address has 1 and 4"
unfoldable pub assignment_params : List ℕ → List Param
assignment_params i = identity_id is i ∷ kind_id is (device_type ∷ []) ∷ []

-- "Answers .. begin 0x81, 0xF0, length"
unfoldable pub scan_answer : List ℕ → ℕ → List ℕ
scan_answer i a = xid_payload addressing (scan_params i a)

unfoldable pub assignment_answer : List ℕ → List ℕ
assignment_answer i = xid_payload addressing (assignment_params i)

unfoldable pub if_asked : Bool → Param → List Param → List Param
if_asked asked p ps = cond asked (p ∷ ps) ps

-- what the limit agreed on leaves for a payload, in bits: two octets, highest first
unfoldable pub length_value : ℕ → List ℕ
length_value N = high_of (payload_most N * 8) ∷ low_of (payload_most N * 8) ∷ []

-- "windows are answered 1"
abbrev pub window_value : List ℕ
window_value = 1 ∷ []

-- each identifier that was asked, ascending
unfoldable pub negotiation_params : AskedFor → ℕ → List Param
negotiation_params a N =
    if_asked a.sent (sent_id is length_value N)
    (if_asked a.received (received_id is length_value N)
    (if_asked a.sending (sending_id is window_value) (if_asked a.receiving (receiving_id is window_value) [])))

-- "the device answers": 0x81, 0x80, and what was asked
unfoldable pub negotiation_answer : AskedFor → ℕ → List ℕ
negotiation_answer a N = xid_payload negotiating (negotiation_params a N)

abbrev pub opening : ℕ → ℕ → List ℕ
opening octet k = format ∷ octet ∷ k ∷ []
