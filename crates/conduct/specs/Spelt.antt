-- What is said of a frame, octet by octet: 01, "The link", "XID: scan and assignment" and "Messages", and 02 (iv). A row for each
-- case of specs/Comes, in 01's octets; `says-octets` of proofs/Says says that this is what a device says. The row of a
-- message that is answered at once and changes nothing has its answer b, whose octets are message's (message/proofs/Tells
-- for 0x04, 0x05 and 0x34, message/proofs/Fails, Exact and Words for each failure).
--   rr a r              == RR from the address a, with N(R) = r
--   info a s r m        == the I-frame from a with N(S) = s, N(R) = r and the payload m
--   kept s r            == what is pending in the session s after a good N(R) = r
--   pending_said k p    == the payload of what is pending at the desk k, p
--   indication pairs    == the payload of an indication with these pairs
--   again k s r p       == the pending answer p again, else RR
--   sent_number s p     == V(S), where S is s and p is pending
--   frmr a c s why      == FRMR from the address a for the control c, in the session s
--   result_said reached, scan_said a i, assignment_said a i == a tilt's result; the answers to a scan and an assignment
--   if_given n ps t     == the triple t, if ps give the identifier n
--   length_said N n, window_said n == the triple of the identifier n: of a length, for the frame limit N; of a window
--   agreed_said ps N, negotiation_said a ps N == the triples of the answer to a negotiation with ps that comes to the
--                          frame limit N; that answer
--   octets_said d f c   == address, control and payload that d says of the frame f, whose case is c; none for silence
-- Numbers are taken round, "0 to 7", so that every record has its row. After a good N(R), S is that N(R) (`good-s` of
-- proofs/Says). Assumes nothing.
use Rattle.std.specs.Prelude.{Bool, true, false, cond, List, [], ◌∷◌, ◌++◌, ℕ, ◌+◌, ◌-◌, ◌*◌, ◌/◌, ◌%◌, eqb, length, take}
use Rattle.std.proofs.Math.Option.{Option, none, some}
use Rattle.antenna.specs.Alarms.{changes_of}
use Rattle.record.specs.declared.Pending.{Pending}
use Rattle.record.specs.declared.Pending.TheVariants.{Nothing, Answer, Indication}
use Rattle.record.specs.declared.Session.{Session}
use Rattle.record.specs.declared.Desk.{Desk}
use Rattle.record.specs.declared.Device.{Device}
use Rattle.record.specs.Allowed.{identity_of, limit_of}
use Rattle.params.specs.Field.{Param, value_for, given}
use Rattle.negotiation.specs.Negotiation.{agreed_limit}
use Rattle.acknowledge.specs.Acknowledge.{station_after}
use Rattle.link.specs.Frames.{control_of}
use Rattle.conduct.specs.Comes.{Comes, unread, scans, assigns, negotiates, begins, declines, renews, leaves}
use Rattle.conduct.specs.Comes.{miscounts, unknown, starts, clears, subscribes, answers, murmurs, repeats, resends}
use Rattle.conduct.specs.Comes.{delivers, indicates, rests, pauses}

-- "RR 0x11 + 32·N(R)"
unfoldable pub rr : ℕ → ℕ → Option (List ℕ)
rr a r = some (a ∷ (0x11 + 32 * (r % 8)) ∷ [])

-- "I is 0x10 + 2·N(S) + 32·N(R)"; "Answers are I-frames, N(S) = S, N(R) = the present R."
unfoldable pub info : ℕ → ℕ → ℕ → List ℕ → Option (List ℕ)
info a s r m = some (a ∷ (0x10 + 2 * (s % 8) + 32 * (r % 8)) ∷ m)

-- "N(R) must be S, or S+1 where an answer is pending, which removes it"
unfoldable pub kept : Session → ℕ → Pending
kept s r = cond (eqb r s.s) s.pending Nothing

-- "An indication is code 0x07, length, then pairs alarm and 1 (raised) or 0, ascending, for alarms whose present state
-- differs from what was told."
unfoldable pub indication : List ℕ → List ℕ
indication pairs = 0x07 ∷ length pairs % 256 ∷ length pairs / 256 % 256 ∷ pairs

unfoldable pub pending_said : Desk → Pending → List ℕ
pending_said k Nothing = []
pending_said k Answer = take k.reply.len k.reply.octets
pending_said k Indication = indication (changes_of k.said.flags k.told.flags)

-- "it gets the pending answer again, else RR with N(R) = R"
unfoldable pub again : Desk → Session → ℕ → Pending → Option (List ℕ)
again k s r Nothing = rr k.address s.r
again k s r Answer = info k.address r s.r (pending_said k Answer)
again k s r Indication = info k.address r s.r (pending_said k Indication)

-- "V(S) is S, or S+1 with an answer pending."
unfoldable pub sent_number : ℕ → Pending → ℕ
sent_number s Nothing = s % 8
sent_number s Answer = (s + 1) % 8
sent_number s Indication = (s + 1) % 8

-- "FRMR 0x97 with three payload octets: the control; 2·V(S) + 32·R; 8 for a bad N(R) or 1 for an unknown control"
unfoldable pub frmr : ℕ → ℕ → Session → ℕ → Option (List ℕ)
frmr a c s why = some (a ∷ 0x97 ∷ c ∷ (2 * sent_number s.s s.pending + 32 * (s.r % 8)) ∷ why ∷ [])

-- "Stopped at 50 ..: 33 01 00 00", "Stopped at 49: 33 02 00 0B 02"
unfoldable pub result_said : Bool → List ℕ
result_said true = 0x33 ∷ 0x01 ∷ 0x00 ∷ 0x00 ∷ []
result_said false = 0x33 ∷ 0x02 ∷ 0x00 ∷ 0x0B ∷ 0x02 ∷ []

-- "Answers have control 0xBF and begin 0x81, 0xF0, length." "Answer, in any state: 1 (unpadded, n octets), 2, 4 in
-- that order; length field n+8"
unfoldable pub scan_said : ℕ → List ℕ → List ℕ
scan_said a i =
    a ∷ 0xBF ∷ 0x81 ∷ 0xF0 ∷ (length i + 8) ∷ 1 ∷ length i ∷ (i ++ (2 ∷ 1 ∷ a ∷ 4 ∷ 1 ∷ 0x01 ∷ []))

-- "the answer from the new address has 1 and 4; length field n+5"
unfoldable pub assignment_said : ℕ → List ℕ → List ℕ
assignment_said a i = a ∷ 0xBF ∷ 0x81 ∷ 0xF0 ∷ (length i + 5) ∷ 1 ∷ length i ∷ (i ++ (4 ∷ 1 ∷ 0x01 ∷ []))

unfoldable pub if_given : ℕ → List Param → List ℕ → List ℕ
if_given n ps triple = cond (given (value_for n ps)) triple []

-- (N - 4) · 8 as two octets, highest first
abbrev pub length_said : ℕ → ℕ → List ℕ
length_said N n = n ∷ 2 ∷ (N - 4) * 8 / 256 % 256 ∷ (N - 4) * 8 % 256 ∷ []

-- "windows are answered 1"
abbrev pub window_said : ℕ → List ℕ
window_said n = n ∷ 1 ∷ 1 ∷ []

-- each identifier that was asked, ascending
unfoldable pub agreed_said : List Param → ℕ → List ℕ
agreed_said ps N =
    if_given 5 ps (length_said N 5)
    ++ (if_given 6 ps (length_said N 6) ++ (if_given 7 ps (window_said 7) ++ if_given 8 ps (window_said 8)))

-- 02 (iv): "the device answers"
unfoldable pub negotiation_said : ℕ → List Param → ℕ → List ℕ
negotiation_said a ps N = a ∷ 0xBF ∷ 0x81 ∷ 0x80 ∷ length (agreed_said ps N) ∷ agreed_said ps N

-- "Answers carry the device's address (0 in NoAddress)"; "UA 0x73", "DM 0x1F"; after an accepted I-frame "R moves on"
unfoldable pub octets_said : (d : Device) (f : List ℕ) → Comes d f → Option (List ℕ)
octets_said d f (unread w) = none
octets_said d f (scans w m) = some (scan_said d.station.desk.address (identity_of d.plate))
octets_said d f (assigns a w) = some (assignment_said a (identity_of d.plate))
octets_said d f (negotiates ps w m) =
    some (negotiation_said d.station.desk.address ps (agreed_limit (limit_of d) ps))
octets_said d f (begins w l) = some (d.station.desk.address ∷ 0x73 ∷ [])
octets_said d f (declines o w n l) = some (d.station.desk.address ∷ 0x1F ∷ [])
octets_said d f (renews s w l) = some (d.station.desk.address ∷ 0x73 ∷ [])
octets_said d f (leaves s w l) = some (d.station.desk.address ∷ 0x73 ∷ [])
octets_said d f (miscounts s o r w l n b) = frmr d.station.desk.address (control_of f) s 8
octets_said d f (unknown s w l) = frmr d.station.desk.address (control_of f) s 1
octets_said d f (starts s n r w due) = rr d.station.desk.address (s.r + 1)
octets_said d f (clears s n r w m) = info d.station.desk.address r (s.r + 1) (0x06 ∷ 1 ∷ 0 ∷ 0x00 ∷ [])
octets_said d f (subscribes s n r w m) = info d.station.desk.address r (s.r + 1) (0x12 ∷ 1 ∷ 0 ∷ 0x00 ∷ [])
octets_said d f (answers s n r b w e) = info d.station.desk.address r (s.r + 1) b
octets_said d f (murmurs s n r w few) = rr d.station.desk.address (s.r + 1)
octets_said d f (repeats s n r w a) = again d.station.desk s r (kept s r)
octets_said d f (resends s r w p) = info d.station.desk.address r s.r (pending_said d.station.desk s.pending)
octets_said d f (delivers s r reached w p q) = info d.station.desk.address r s.r (result_said reached)
octets_said d f (indicates s r w p q t) =
    info d.station.desk.address r s.r
    (indication (changes_of d.antenna.drive.raised.flags (station_after d.station s r).desk.told.flags))
octets_said d f (rests s r w p q t) = rr d.station.desk.address s.r
octets_said d f (pauses s r w) = rr d.station.desk.address s.r
