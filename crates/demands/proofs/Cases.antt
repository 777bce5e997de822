-- The starred cases of 01, "Both sides of the edge": rows of one list, and one statement that each of them holds of the
-- definitions that the promises cite. antt computes it.
--   fresh t      == the fresh device KA0123 of the range -20 to 100, at the tilt t; assigned t == at the address 7
--   heard ids p  == one of the identities answers the probe of the beginning p
--   Row          == what is tried, and what comes of it; Holds r == it does
-- Assumes nothing.
use Rattle.octets.specs.Text.{laid}
use mathlib.Core.Path.{◌≡◌, refl}
use mathlib.Core.Bool.{Bool, false, ◌||◌}
use mathlib.Core.List.{List, [], ◌∷◌}
use mathlib.Core.Option.{Option, none, some}
use Prim.Native.Nat.{ℕ}
use lib.IntN.{ℤ, pos, negsuc}
use lib.ListN.{replicate}
use Rattle.octets.specs.Octets.{holds, place_of, last_of, ◌at_start_of◌}
use Rattle.refusal.specs.Answer.{gives, refuses, answered, state_after}
use Rattle.identity.specs.Bits.{Bits, word, packed, masked}
use Rattle.identity.specs.Identity.{printable, all_printable, allowed_identity, padded, octets_of, mask_of, same}
use Rattle.identity.specs.Identity.{answers_scan}
use Rattle.walk.specs.Machine.{step, step_in, noted, listing, go_on, next, carry, zero_half, named}
use Rattle.scan.specs.Record.{rows_of, flat, phase_of, state_of}
use Rattle.scan.specs.Steps.{state_at}
use Rattle.scan.specs.Scan as scan
use Rattle.scan.specs.declared.State.{State}
use Rattle.scan.specs.declared.State.TheVariants.{Complete, Limit}
use Rattle.control.specs.Control.{polled, next_of, info_of, rr_of, numbered_by, asked_by}
use Rattle.antenna.specs.declared.Angle.{Angle}
use Rattle.antenna.specs.Angles.{at_most, same_as}
use Rattle.antenna.specs.Events.{rested_of, rested_at, can_stop, with_alarm, is_alarm}
use Rattle.antenna.specs.Motions.{in_range, waiting_of, moves, started}
use Rattle.record.specs.declared.Device.{Device}
use Rattle.record.specs.declared.Event.TheVariants.{Stopped, Raised}
use Rattle.record.specs.Allowed.{identity_allowed, plates_allowed, numbers_allowed, pending_fits, session_allowed, addressed}
use Rattle.record.specs.Allowed.{link_allowed, station_allowed, owed_allowed, allowed_device}
use Rattle.record.specs.Fresh.{plate_from, fresh_from, texts_allowed, data_allowed}
use Rattle.record.specs.Fresh.{fresh_of, blank_device}
use Rattle.record.specs.Changes.{unsaid_at, emptied_as, limited_to, can_be, after_event, event_rows, happened}
use Rattle.session.specs.Session.{acknowledges, good_number, accepts, taken, vs_of, counts_of}
use Rattle.station.specs.Station.{resent, awaiting}
use Rattle.acknowledge.specs.Acknowledge.{session_after, station_after}
use Rattle.station.specs.Station.{answers_with}
use Rattle.inform.specs.Inform.{heeded}
use Rattle.params.specs.Field.{opened, triples_after, before, checked, all_right, right_length, identifiers}
use Rattle.params.specs.Field.{none_twice, params_of, value_for, given, octets_in}
use Rattle.xid.specs.Addressing.{values_of}
use Rattle.xid.specs.Match.{is_scan, scan_shape, assignment_shape, scan_matches, identity_matches, kind_matches}
use Rattle.xid.specs.Match.{vendor_matches, no_params, malformed, values_in, neither, bad_address, other_identity, other_type}
use Rattle.xid.specs.Match.{other_vendor, other_scan, value_rows, payload_rows, meaning_of, or_silence, payload_answer, read_of}
use Rattle.payload.specs.Payloads.{message_of, success_of, failure_of, result_of}
use Rattle.tilt.specs.Tilts.{tilt_octets, angle_of}
use Rattle.message.specs.Messages.{drive_checks, checks, in_table, taken_by}
use Rattle.message.specs.Carried.{carried_of, outcome, done_by, replies, unanswered}
use Rattle.station.specs.Turns.{saying}
use Rattle.record.specs.Changes.{device_of}
use Rattle.acknowledge.specs.Acknowledge.{acknowledged, emptied, told_after, relieved}
use Rattle.poll.specs.Poll.{indicates, to_tell, idle_poll, waiting_poll, poll_of}
use Rattle.report.specs.Reports.{indication_of}
use Rattle.antenna.specs.Alarms.{changes_among, any_differ}
use Rattle.xid_answer.specs.Answer.{scan_params, assignment_params, scan_answer, assignment_answer}
use Rattle.xid_answer.specs.Answer.{if_asked, length_value, negotiation_params, negotiation_answer}
use Rattle.params.specs.Field.{triple_of, field_of, xid_payload}
use Rattle.inform.specs.Inform.{replied_by, carried_by, inform_of}
use Rattle.states.specs.States.{informed_by, polled_by, paused_by, rnr_by}
use Rattle.states.specs.States.{begun, renewed, released, rejected, info_by, rr_by, connected_by, assigned_by, linked_by}
use Rattle.link.specs.Link.{ordered_by, agreed_by, negotiated_by, own_by, xid_by, everyone_by, is_own, addressed_by}
use Rattle.link.specs.Link.{controlled_by, wrong_size}
use Rattle.link.specs.Link.{judged_frame}
use Rattle.conduct.specs.Conduct.{after, Meeting, frame, event, meets, run}
use Rattle.speech.specs.Speech.{pending_octets, link_octets, control_by, payload_by, frame_by}
use Rattle.device.specs.Judge.{reacts, judge_rows, judged, size_of, told_of, frame_at, buffer_after}
use Rattle.limits.specs.Limits.{is_limit}
use Rattle.negotiation.specs.Negotiation.{bits_from, smaller_of, limit_for, limit_asked, agreed_limit, asked_in, offered, offer_of}

-- ---- who is tried

abbrev pub ka : List ℕ
ka = 0x4B ∷ 0x41 ∷ 0x30 ∷ 0x31 ∷ 0x32 ∷ 0x33 ∷ []

abbrev pub tenths : ℤ → Angle
tenths t = record { tenths = t }

-- "The device has range -20 to 100, is fresh, then assigned."
unfoldable pub fresh : ℤ → Device
fresh t =
    state_after
    (fresh_of ka [] [] [] (record { lowest = tenths (negsuc 19); highest = tenths (pos 100); present = tenths t }))
    blank_device

unfoldable pub assigned : ℤ → Device
assigned t = run (fresh t) (frame (0xFF ∷ 0xBF ∷ 0x81 ∷ 0xF0 ∷ 3 ∷ 2 ∷ 1 ∷ 7 ∷ []) ∷ [])

unfoldable pub heard : List (List ℕ) → Bits → Bool
heard [] p = false
heard (i ∷ ids) p = answers_scan i (mask_of p) (octets_of p) || heard ids p

-- ---- the rows

pub data Row : Type 0 where
  -- with these identities on the cable and this limit, the scan ends so, after so many probes
  ends : List (List ℕ) → ℕ → State → ℕ → Row
  -- at this tilt, after these frames and events, this frame gets this answer, into a buffer of 76 octets
  gets : ℤ → List Meeting → List ℕ → List ℕ → Row
  -- .. into one of 258
  gets-258 : ℤ → List Meeting → List ℕ → List ℕ → Row
  -- .. gets silence, and the device is as it was
  silent : ℤ → List Meeting → List ℕ → Row
  -- .. is not carried out: the device is as it was, with its movement
  idle : ℤ → List Meeting → List ℕ → Row
  -- .. gets this number
  refused : ℤ → List Meeting → List ℕ → ℕ → Row

-- the device d says x of the frame f, into an answer buffer of so many octets
abbrev pub Answers : ℕ → Device → List ℕ → Option (List ℕ) → Type 0
Answers room d f x =
    let r = judged d f room in
    (told_of r ≡ gives (size_of x)) × (buffer_after r (replicate room 0) ≡ frame_at x (replicate room 0))

unfoldable pub Holds : Row → Type 0
Holds (ends ids limit state count) =
    let last = scan.driven (heard ids) limit (scan.fresh limit) in (last.state ≡ state) × (last.count ≡ count)
Holds (gets t ms f x) = Answers 76 (run (assigned t) ms) f (some x)
Holds (gets-258 t ms f x) = Answers 258 (run (assigned t) ms) f (some x)
Holds (silent t ms f) =
    Answers 76 (run (assigned t) ms) f none × (after (run (assigned t) ms) f ≡ run (assigned t) ms)
Holds (idle t ms f) = after (run (assigned t) ms) f ≡ run (assigned t) ms
Holds (refused t ms f k) = told_of (judged (run (assigned t) ms) f 76) ≡ refuses k

unfoldable pub All : List Row → Type 0
All [] = Unit {0}
All (r ∷ rows) = Holds r × All rows

-- ---- the frames and events of the rows

abbrev pub snrm : Meeting
snrm = frame (7 ∷ 0x93 ∷ [])

-- an I-frame, and in it: set tilt to 50
abbrev pub set-50 : List ℕ
set-50 = 7 ∷ 0x10 ∷ 0x33 ∷ 0x02 ∷ 0x00 ∷ 0x32 ∷ 0x00 ∷ []

-- .. and to -15
abbrev pub set-minus-15 : List ℕ
set-minus-15 = 7 ∷ 0x10 ∷ 0x33 ∷ 0x02 ∷ 0x00 ∷ 0xF1 ∷ 0xFF ∷ []

abbrev pub rr : List ℕ
rr = 7 ∷ 0x11 ∷ []

-- an I-frame, and in it: subscribe
abbrev pub subscribe : List ℕ
subscribe = 7 ∷ 0x10 ∷ 0x12 ∷ 0x00 ∷ 0x00 ∷ []

abbrev pub stopped : ℤ → Meeting
stopped t = event (Stopped (tenths t))

-- ---- the list

abbrev pub starred : List Row
starred =
    -- "No device, limit 1: complete, 1 probe." "Limit 0: "limit", 0 probes."
    ends [] 1 Complete 1
    ∷ ends [] 0 Limit 0
    -- "One device: 305 probes. Limit 305 complete, 304 "limit"."
    ∷ ends (ka ∷ []) 305 Complete 305
    ∷ ends (ka ∷ []) 304 Limit 304
    -- "After SNRM, I-frame 0x10 with 33 02 00 32 00: RR 0x31. Sent again: 0x31, no second movement."
    ∷ gets (pos 0) (snrm ∷ []) set-50 (7 ∷ 0x31 ∷ [])
    ∷ gets (pos 0) (snrm ∷ frame set-50 ∷ []) set-50 (7 ∷ 0x31 ∷ [])
    ∷ idle (pos 0) (snrm ∷ frame set-50 ∷ []) set-50
    -- "Stopped at 50, then RR 0x11 from the master: I-frame 0x30 with 33 01 00 00."
    ∷ gets (pos 0) (snrm ∷ frame set-50 ∷ frame set-50 ∷ stopped (pos 50) ∷ []) rr
    (7 ∷ 0x30 ∷ 0x33 ∷ 0x01 ∷ 0x00 ∷ 0x00 ∷ [])
    -- "Stopped at 49: 33 02 00 0B 02."
    ∷ gets (pos 0) (snrm ∷ frame set-50 ∷ frame set-50 ∷ stopped (pos 49) ∷ []) rr
    (7 ∷ 0x30 ∷ 0x33 ∷ 0x02 ∷ 0x00 ∷ 0x0B ∷ 0x02 ∷ [])
    -- "Tilt -15: get tilt gives 34 03 00 00 F1 FF."
    ∷ gets (negsuc 14) (snrm ∷ []) (7 ∷ 0x10 ∷ 0x34 ∷ 0x00 ∷ 0x00 ∷ [])
    (7 ∷ 0x30 ∷ 0x34 ∷ 0x03 ∷ 0x00 ∷ 0x00 ∷ 0xF1 ∷ 0xFF ∷ [])
    -- "After SNRM, RR 0x71: FRMR payload 71 00 08."
    ∷ gets (pos 0) (snrm ∷ []) (7 ∷ 0x71 ∷ []) (7 ∷ 0x97 ∷ 0x71 ∷ 0x00 ∷ 0x08 ∷ [])
    -- "Assignment with address value 0 or 255: silence."
    ∷ silent (pos 0) [] (0xFF ∷ 0xBF ∷ 0x81 ∷ 0xF0 ∷ 3 ∷ 2 ∷ 1 ∷ 0 ∷ [])
    ∷ silent (pos 0) [] (0xFF ∷ 0xBF ∷ 0x81 ∷ 0xF0 ∷ 3 ∷ 2 ∷ 1 ∷ 255 ∷ [])
    -- "Scan value with a bit outside its mask: silence."
    ∷ silent (pos 0) [] (0xFF ∷ 0xBF ∷ 0x81 ∷ 0xF0 ∷ 6 ∷ 1 ∷ 1 ∷ 0x4B ∷ 3 ∷ 1 ∷ 0x0F ∷ [])
    ∷ []

-- ---- more rows, of sentences that no starred case reaches

abbrev pub rose : ℕ → Meeting
rose k = event (Raised k)

-- a negotiation of 256 octets
abbrev pub longest : List ℕ
longest = 7 ∷ 0xBF ∷ 0x81 ∷ 0x80 ∷ 4 ∷ 5 ∷ 2 ∷ 8 ∷ 0 ∷ []

-- .. and of 10
abbrev pub floor : List ℕ
floor = 7 ∷ 0xBF ∷ 0x81 ∷ 0x80 ∷ 3 ∷ 5 ∷ 1 ∷ 80 ∷ []

-- an I-frame with a message of 99 octets, whose code is not supported
abbrev pub block : List ℕ
block = 7 ∷ 0x10 ∷ 0x41 ∷ 0x60 ∷ 0x00 ∷ replicate 96 0x55

-- an I-frame, and in it: get tilt
abbrev pub get-tilt : List ℕ
get-tilt = 7 ∷ 0x10 ∷ 0x34 ∷ 0x00 ∷ 0x00 ∷ []

abbrev pub further : List Row
further =
    -- "S+1 where an answer is pending, which removes it and moves S on": the result collected, acknowledged, and then get
    -- tilt: "the tilt is t"
    gets (pos 0)
    (snrm ∷ frame set-50 ∷ stopped (pos 50) ∷ frame rr ∷ frame (7 ∷ 0x31 ∷ []) ∷ [])
    (7 ∷ 0x32 ∷ 0x34 ∷ 0x00 ∷ 0x00 ∷ [])
    (7 ∷ 0x52 ∷ 0x34 ∷ 0x03 ∷ 0x00 ∷ 0x00 ∷ 0x32 ∷ 0x00 ∷ [])
    -- "set tilt: 2 octets, low first, signed": F1 FF asks -15, and the "result .. is success exactly if t is the tilt asked"
    ∷ gets (pos 0) (snrm ∷ frame set-minus-15 ∷ stopped (negsuc 14) ∷ []) rr
    (7 ∷ 0x30 ∷ 0x33 ∷ 0x01 ∷ 0x00 ∷ 0x00 ∷ [])
    -- "if subscribed and there is something to tell, an alarm indication; else RR": not subscribed; subscribed
    ∷ gets (pos 0) (snrm ∷ rose 0x11 ∷ []) rr (7 ∷ 0x11 ∷ [])
    ∷ gets (pos 0) (snrm ∷ rose 0x11 ∷ frame subscribe ∷ []) (7 ∷ 0x31 ∷ [])
    (7 ∷ 0x32 ∷ 0x07 ∷ 0x02 ∷ 0x00 ∷ 0x11 ∷ 0x01 ∷ [])
    -- "then pairs alarm and 1 (raised) or 0, ascending"
    ∷ gets (pos 0) (snrm ∷ rose 0x11 ∷ rose 0x02 ∷ frame subscribe ∷ []) (7 ∷ 0x31 ∷ [])
    (7 ∷ 0x32 ∷ 0x07 ∷ 0x04 ∷ 0x00 ∷ 0x02 ∷ 0x01 ∷ 0x11 ∷ 0x01 ∷ [])
    -- "V(S) is S, or S+1 with an answer pending": "2·V(S) + 32·R"
    ∷ gets (pos 0) (snrm ∷ frame get-tilt ∷ []) (7 ∷ 0x71 ∷ [])
    (7 ∷ 0x97 ∷ 0x71 ∷ 0x22 ∷ 0x08 ∷ [])
    -- "RNR gets RR."
    ∷ gets (pos 0) (snrm ∷ []) (7 ∷ 0x15 ∷ []) (7 ∷ 0x11 ∷ [])
    -- ".. any control but XID, SNRM, DISC, I, RR and RNR, gets FRMR .. 1 for an unknown control"
    ∷ gets (pos 0) (snrm ∷ []) (7 ∷ 0x13 ∷ []) (7 ∷ 0x97 ∷ 0x13 ∷ 0x00 ∷ 0x01 ∷ [])
    -- "AddressAssigned: .. anything else gets DM 0x1F"; "DISC 0x53 gets UA"
    ∷ gets (pos 0) [] (7 ∷ 0x53 ∷ []) (7 ∷ 0x1F ∷ [])
    ∷ gets (pos 0) (snrm ∷ []) (7 ∷ 0x53 ∷ []) (7 ∷ 0x73 ∷ [])
    -- "the answer from the new address has 1 and 4; length field n+5"
    ∷ gets (pos 0) [] (0xFF ∷ 0xBF ∷ 0x81 ∷ 0xF0 ∷ 3 ∷ 2 ∷ 1 ∷ 9 ∷ [])
    (9 ∷ 0xBF ∷ 0x81 ∷ 0xF0 ∷ 0x0B ∷ 1 ∷ 6 ∷ 0x4B ∷ 0x41 ∷ 0x30 ∷ 0x31 ∷ 0x32 ∷ 0x33 ∷ 4 ∷ 1 ∷ 1 ∷ [])
    -- "Answer, in any state: 1 (unpadded, n octets), 2, 4 in that order; length field n+8"
    ∷ gets (pos 0) [] (0xFF ∷ 0xBF ∷ 0x81 ∷ 0xF0 ∷ 6 ∷ 1 ∷ 1 ∷ 0 ∷ 3 ∷ 1 ∷ 0 ∷ [])
    (7 ∷ 0xBF ∷ 0x81 ∷ 0xF0 ∷ 0x0E ∷ 1 ∷ 6 ∷ 0x4B ∷ 0x41 ∷ 0x30 ∷ 0x31 ∷ 0x32 ∷ 0x33 ∷ 2 ∷ 1 ∷ 7 ∷ 4 ∷ 1 ∷ 1 ∷ [])
    -- 02 (iv): lengths of 4,000 and 2,048 bits and a window of 7: the smaller, and 1; a length of 80 bits "is answered 78"
    ∷ gets (pos 0) []
    (7 ∷ 0xBF ∷ 0x81 ∷ 0x80 ∷ 0x0B ∷ 7 ∷ 1 ∷ 7 ∷ 6 ∷ 2 ∷ 0x0F ∷ 0xA0 ∷ 5 ∷ 2 ∷ 8 ∷ 0 ∷ [])
    (7 ∷ 0xBF ∷ 0x81 ∷ 0x80 ∷ 0x0B ∷ 5 ∷ 2 ∷ 8 ∷ 0 ∷ 6 ∷ 2 ∷ 8 ∷ 0 ∷ 7 ∷ 1 ∷ 1 ∷ [])
    ∷ gets (pos 0) [] floor (7 ∷ 0xBF ∷ 0x81 ∷ 0x80 ∷ 4 ∷ 5 ∷ 2 ∷ 2 ∷ 0x50 ∷ [])
    -- "76 .. become N - 2": 76 octets are no room then, also in a session; "and 78 again after .. a session's end": they are
    -- room again after DISC
    ∷ refused (pos 0) (frame longest ∷ snrm ∷ []) (7 ∷ 0x53 ∷ []) 5
    ∷ gets (pos 0) (frame longest ∷ snrm ∷ frame (7 ∷ 0x53 ∷ []) ∷ []) (7 ∷ 0x53 ∷ []) (7 ∷ 0x1F ∷ [])
    -- "76 .. become N - 2", for a frame that is read, too: one of 101 octets gets its answer then, and with 78 silence
    ∷ gets-258 (pos 0) (frame longest ∷ snrm ∷ []) block (7 ∷ 0x30 ∷ 0x41 ∷ 0x02 ∷ 0x00 ∷ 0x0B ∷ 0x25 ∷ [])
    ∷ silent (pos 0) (snrm ∷ []) block
    -- in a session: "the device answers", and what was pending is pending
    ∷ gets (pos 0) (snrm ∷ frame get-tilt ∷ []) floor (7 ∷ 0xBF ∷ 0x81 ∷ 0x80 ∷ 4 ∷ 5 ∷ 2 ∷ 2 ∷ 0x50 ∷ [])
    ∷ gets (pos 0) (snrm ∷ frame get-tilt ∷ frame floor ∷ []) (7 ∷ 0x11 ∷ [])
    (7 ∷ 0x30 ∷ 0x34 ∷ 0x03 ∷ 0x00 ∷ 0x00 ∷ 0x00 ∷ 0x00 ∷ [])
    -- "'own address, XID: silence' now holds for other groups"; and a negotiation to all stations is silence
    ∷ silent (pos 0) [] (7 ∷ 0xBF ∷ 0x81 ∷ 0xF0 ∷ 3 ∷ 2 ∷ 1 ∷ 9 ∷ [])
    ∷ silent (pos 0) [] (0xFF ∷ 0xBF ∷ 0x81 ∷ 0x80 ∷ 4 ∷ 5 ∷ 2 ∷ 8 ∷ 0 ∷ [])
    ∷ []

-- ---- the statement

infixr 5 ◌also◌
◌also◌ : {A B : Type 0} → A → B → A × B
◌also◌ a b = (a, b)

-- antt computes each row
computed : All starred × All further
unfolding All Holds heard scan.driven scan.fresh scan.ended scan.over scan.reported state_at step step_in noted listing
    go_on next carry zero_half named word packed rows_of flat phase_of state_of fresh assigned run meets judged
    judge_rows wrong_size judged_frame controlled_by addressed_by is_own everyone_by xid_by own_by ordered_by negotiated_by agreed_by
    linked_by assigned_by connected_by rr_by info_by rejected released begun renewed poll_of waiting_poll informed_by inform_of
    carried_by replied_by polled_by saying device_of acknowledged session_after station_after resent awaiting answers_with heeded acknowledges good_number
    accepts taken vs_of counts_of polled next_of info_of rr_of numbered_by asked_by unsaid_at emptied_as limited_to can_be after_event event_rows
    happened fresh_of fresh_from plate_from laid texts_allowed data_allowed state_after
    answered allowed_device owed_allowed station_allowed link_allowed addressed session_allowed pending_fits numbers_allowed
    plates_allowed identity_allowed allowed_identity all_printable printable last_of holds ◌at_start_of◌ in_range
    waiting_of moves started rested_of rested_at can_stop at_most same_as read_of payload_answer payload_rows
    value_rows or_silence meaning_of malformed no_params values_in neither bad_address other_identity other_type other_vendor
    other_scan params_of
    opened triples_after before checked all_right right_length identifiers none_twice values_of value_for given
    octets_in is_scan scan_shape assignment_shape scan_matches answers_scan padded masked same identity_matches kind_matches
    vendor_matches message_of success_of failure_of result_of tilt_octets angle_of
    drive_checks checks in_table taken_by carried_of outcome done_by replies unanswered pending_octets link_octets
    control_by payload_by frame_by reacts size_of told_of frame_at buffer_after emptied told_after relieved indicates to_tell
    idle_poll paused_by rnr_by indication_of changes_among any_differ with_alarm is_alarm place_of scan_answer assignment_answer
    scan_params assignment_params xid_payload field_of triple_of is_limit bits_from smaller_of limit_for limit_asked agreed_limit asked_in
    offered offer_of if_asked length_value negotiation_params negotiation_answer
computed = (
  (refl, refl) also (refl, refl) also (refl, refl) also (refl, refl) also (refl, refl) also (refl, refl) also refl
      also (refl, refl) also (refl, refl) also (refl, refl) also (refl, refl) also ((refl, refl), refl)
      also ((refl, refl), refl) also ((refl, refl), refl) also tt,
  (refl, refl) also (refl, refl) also (refl, refl) also (refl, refl) also (refl, refl) also (refl, refl)
      also (refl, refl) also (refl, refl) also (refl, refl) also (refl, refl) also (refl, refl) also (refl, refl)
      also (refl, refl) also (refl, refl) also refl also (refl, refl) also (refl, refl) also ((refl, refl), refl)
      also (refl, refl) also (refl, refl) also ((refl, refl), refl) also ((refl, refl), refl) also tt,
)

pub starred-hold : All starred
starred-hold = computed.0

pub further-hold : All further
further-hold = computed.1
