-- The change requests, each in its own words: where its statement stands. Assumes nothing.

-- ---- (i) the live line: "takes octets in runs of any length, also none, and hands out each frame or its refusal number when the
-- closing flag comes": from a fresh receiver, what the decoder says of each stretch between two flags, over the octets; over
-- calls made one after the other; of what a caller reads of any answers that the promise allows; and from C
pub use Rattle.live.proofs.Decoder.{it-is-the-decoder, stretches-are, says-decoded, holds-always, holds-behind}
pub use Rattle.live.proofs.Called.{called-decoder, offered-decoder}
pub use Rattle.live.proofs.Answered.{call-reads}
pub use Rattle.live.proofs.Played.{played-offers, promise-passed, promise-decoder}
pub use Rattle.live.proofs.InC.{c-reads, c-decoder, zeros-fresh, block-holds, offered-holds, fed-holds}
-- when a flag hands something out, and each number, exactly then, for any record: 4, then 2 where more came than the store has
-- places, then 1, 2, 3
pub use Rattle.live.proofs.Flags.{closes-exactly, flag-4, flag-2, flag-1, flag-3, flag-frame, fresh-words, flag-words}
-- and what any other octet makes of any record that is not refused and has seen a flag, field by field
pub use Rattle.live.proofs.Words.{octet-marks, octet-escape, octet-behind, octet-itself}
-- "It stops after each closing flag that hands something out and tells how many octets it took": one at least, where there are any
pub use Rattle.live.proofs.Answered.{how-far, told-at-flag, told-nothing, takes-at-least-one, takes-at-most, call-takes}
-- "A record holding more octets than its store gets 6, then an output shorter than 76 gets 5; nothing is taken": which (iv) makes
-- N - 2, with 6 first for a number that is no limit; each exactly then; neither is ever handed out. From C: 6, and what a block
-- holds, octet by octet
pub use Rattle.live.proofs.Answered.{refused-6, refused-5, refused-other, refusal-changes-nothing, not-refused}
pub use Rattle.live.proofs.Answered.{says-no-5, says-no-6}
pub use Rattle.live.proofs.Examples.{refused-rows, flag-rows, quiet-rows, more-row, block_row}
pub use Rattle.live.proofs.InC.{block-refused-6, yes-exactly, block_words, yes-written}
-- "Two flags side by side hand out nothing; octets before the first flag are dropped": `stretches-are`; the second half of any
-- record
pub use Rattle.live.proofs.Flags.{unseen-dropped}
-- "However the same octets are cut, the frames, refusals and end state agree": cut into runs, empty ones too, and lent again with
-- what was left, or offered in any way at all; every octet is taken once, in order. From C: cut into runs in two ways
pub use Rattle.live.proofs.Cuts.{cuts, fed-all, any_way, offers-are}
pub use Rattle.live.proofs.InC.{c-cuts}
-- "After any noise, the next flag and what follows it are read as by a fresh receiver, save that this flag may also close the noisy
-- stretch": from any record that is not refused
pub use Rattle.live.proofs.Noise.{resynchronised, alike-outs}
pub use Rattle.live.proofs.Called.{called-noise}
-- lines written one after the other, with or without shared flags, hand out exactly the frames that were put in; from C, too
pub use Rattle.live.proofs.Trip.{lines-come-through, lines-and-rest, written-lines}
pub use Rattle.live.proofs.Called.{called-lines, called-lines-and-rest, called-lines-of, written-called}
pub use Rattle.live.proofs.InC.{c-lines, c-written}
-- a hand-out goes by the N of the call that takes the flag; the record, and how far a call goes, by none: over calls with any
-- limits and outputs, refused ones among them; the record of any record, what is handed out from a fresh one
pub use Rattle.live.proofs.Called.{change-of-limit, limit-at-flag, flagless-taken}
pub use Rattle.live.proofs.Asked.{asks-are, asks-refused, asked-decoder}
-- for every record, also one that no receiver made: a frame that is handed out has the right check for its octets, those that stand
-- in the output
pub use Rattle.live.proofs.Answered.{right-check, right-check-octets, right-check-call, frame-size}
-- ---- (ii) wild cards: vendor 0xFF 0xFF and type 0xFF, "those two values match every device in an assignment."
-- as if no type, or no vendor, were given, whatever else is
pub use Rattle.xid.proofs.Wild.{wild-type, wild-vendor}
-- with both, an assignment is taken exactly if the address value is 1 to 254 and the identity, where given, matches; with no
-- identity by every device; such a payload
pub use Rattle.xid.proofs.Wild.{wild-exactly, wild-taken, wild-formed}
-- so on the cable: every device takes the address, answers from it, and then answers SNRM to it; two hold the same
pub use Rattle.bus.proofs.Shared.{wild-heard, wild-shared, wild-begins}
pub use Rattle.bus.proofs.Examples.{two-share}
-- a type or a vendor that is neither the wild card nor the device's own is silence, as in 01; so is one octet FF of two, at
-- every device
pub use Rattle.xid.proofs.Wild.{plain_type, plain-vendor, half-wild}
-- a scan's rule is as before (`scan-exactly`): with a type or a vendor beside its mask, whatever they say, a payload is neither
-- scan nor assignment, and silence at every device
pub use Rattle.xid.proofs.Wild.{masked-neither, masked-silent}
-- what is silence to a device is so on the cable: it stays as it was, and no answer comes
pub use Rattle.bus.proofs.Assigns.{silence-heard}
-- ---- (iii) a smaller check table: "Its answer for every input stays the same."
-- of the two routines of the code, by what each promises: whatever the one by the table of 16 and the one by that of 256 may
-- give for one register and the same octets is one number; `go_on` is one of them, by a constant
pub use Rattle.fcs.proofs.Agree.{tables_agree}
-- ---- (iv) longer frames by negotiation: "The frame limit N, one for both ways, is a number of the link, 78 to 260"
-- in a record that may be handed in (`allowed-words` of the page One), in a fresh one, which has 78, and over any run, where no
-- length is asked of the device, 78
pub use Rattle.record.proofs.Accounts.{fresh-is}
pub use Rattle.conduct.proofs.Limits.{unasked-least}
-- an XID to the own address with the group 0x80: which payloads are one, both ways, and that any other is silence; to all
-- stations it is silence, and no payload is of both groups
pub use Rattle.negotiation.proofs.Exactly.{negotiating-exactly, offer-exactly, offer-malformed}
pub use Rattle.conduct.proofs.Limits.{malformed-silent}
pub use Rattle.link.proofs.Xids.{malformed-own, groups-apart, negotiation-unheard}
-- "N - 4 is the whole octets in the smaller I-field length asked; none asked keeps N; an N below 78 is answered 78": N - 4 is
-- max 74 (min 256 (bits / 8)), exactly, so never above what was asked but for that floor, and N is 78 to 260; lengths of one
-- to four octets, highest first
pub use Rattle.negotiation.proofs.Exactly.{limit-kept, limit-agreed, limit-sent, limit-received, limit-smaller}
pub use Rattle.negotiation.proofs.Exactly.{never-above, agreed-least}
pub use Rattle.negotiation.proofs.Bits.{bits-one, bits-two, bits-three, bits-four}
pub use Rattle.negotiation.proofs.Examples.{computed}
-- "the device answers": a negotiation changes N alone, and is answered with what was asked, the limit agreed on and windows of
-- 1, octet by octet; the length that is answered is at most each one asked, but for 592 bits; who reads that answer reads that
-- limit
pub use Rattle.conduct.proofs.Limits.{negotiation-comes, negotiation-alone}
pub use Rattle.device.proofs.Says.{negotiation-octets}
pub use Rattle.xid_answer.proofs.Agreement.{negotiation-formed, asked-again, answered-within, answer-read, answer_keeps}
-- so on the cable: written as a line it is heard and answered; then the limit agreed on is the device's, and the master's where
-- it asked a length, to whom the answer comes as it was said; and what the master writes with it is heard as it was put in
pub use Rattle.bus.proofs.Longer.{negotiation-heard, limit-later, master-reads, master-hears, heard-written, heard-later}
-- whatever the limit of the link: a frame is heard as it was put in exactly if it has room in it, and gets 2 where it has not;
-- what the device answers, where it is octets, is read back with any limit
pub use Rattle.bus.proofs.Hears.{hears-with}
pub use Rattle.bus.proofs.Longer.{room-exactly, longer-refused, answer-reads-back}
-- "78 again after an assignment or a session's end" (`limit-assigned` and `limit-ended` of `changes`, on the page Two); a
-- first SNRM and whatever gets DM keep it; and N changes by an assignment, a session's end or a negotiation that gives a
-- length, by no other frame and by no event
pub use Rattle.conduct.proofs.Limits.{first-keeps, declined-keeps, limit-changes, limit-happens}
-- "Decoder .. and writer take N (outside 78 to 260: refusal 6 first): refusal 2 means more than N, 9 more than N - 4, and 76 and
-- 158 become N - 2 and 2N + 2": `decode-numbers`, `write-numbers`, and `judge-numbers`, `hear-numbers` for the N of the link, on
-- the page One; `written-reads-back`, `line-longest` on the page Two; a frame of any other size is silence; a line of 2N + 2
-- octets is reached, at 78 and at 260. Demand 3 over rows of any N: `heard-when`, `whole_row` on the page Cable
pub use Rattle.link.proofs.Judged.{wrong-size-exactly, too_short, too_long}
pub use Rattle.bus.proofs.Longest.{line-reached-78, line-reached-260}
-- ---- (vii) salvage of damaged captures: "reads a line capture .. through the live receiver, writes a capture of the good frames
-- only, and lists what it left out": from a new record, whatever calls take a capture's octets in whatever cuts, refused ones
-- among them, once all are taken and the last call is made: what was written, the list, the counts and the length are those
-- that the definition gives for the whole capture (salvage/specs/Capture), of any answers that the promise allows; each call
-- that is not refused and has octets takes one at least
pub use Rattle.capture.proofs.Salvaged.{salvage-is, read-takes-some}
-- "through the live receiver": its frames, and its numbers where those listed are not 0, in order
pub use Rattle.capture.proofs.Whole.{through-the-receiver}
-- "where each dropped stretch began, how long it was, and its refusal number, or 0 for octets before the first flag or after the
-- last": the octets of a stretch are those that stand at its place, one at least and no flag among them; a number that is not 0
-- is the decoder's; 0 lies before the first flag or after the last; with no flag at all it is the whole capture
pub use Rattle.capture.proofs.Places.{as-they-stood, piece-octets, left-is-refused, listed-are-left, ascending}
-- the list: each stretch left out by its offset, length and number, ascending, and no other; each place of a dropped octet lies in
-- one that is listed; 0 is said of what lies before the first flag or after the last, and of nothing else
pub use Rattle.capture.proofs.Listed.{listed-exactly, listed-stands, left-listed, list-ascends, edge-exactly}
pub use Rattle.capture.proofs.Whole.{no-flag-at-all, empty-comes-out}
-- nothing is made up: what is kept is octets that stood there, and the decoder reads them
pub use Rattle.capture.proofs.Places.{kept-is-decoded}
-- "Kept frame octets, flags and dropped octets add up to the length of the capture, each counted by its place in the input": at
-- every place stands exactly one of the three, in one stretch at most, and each count is the number of its places
pub use Rattle.capture.proofs.Places.{every-place, one_piece, add-up}
pub use Rattle.capture.proofs.Counted.{counts-by-place, covered-exactly}
-- "A capture without damage comes out with the same frames in the same order, and a second pass drops nothing": with the same
-- limit or a larger one, and what it writes is what it read; between the flags of what is written stand the stretches kept, in
-- order, and no other octet is there
pub use Rattle.capture.proofs.Whole.{whole-comes-out}
pub use Rattle.capture.proofs.Goods.{good-stretches, good_length}
pub use Rattle.capture.proofs.Again.{good-again}
-- the same however the octets are cut, from any record and with any limit; octets without a flag make of a record the same with
-- every limit; the last call made again changes nothing and lists nothing
pub use Rattle.capture.proofs.Told.{cut-anyhow, flagless-any-limit, finish-again}
-- the numbers of a call: 6, then 5, each exactly then, and no other; nothing is changed then (`read-answers`, `finish-answers` of
-- the page One)
pub use Rattle.capture.proofs.Numbers.{salvage-6, salvage-5, salvage-other, finish-6, finish-other}
