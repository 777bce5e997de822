-- Demand 1. "Any octets, from any master or from noise, get a defined answer: a frame, silence, or a numbered refusal.
-- Nothing relies on the caller having checked. A refusal changes no device, no scan and no octet of the caller's
-- buffers."
-- Of every public function that can refuse, what a caller learns of its promise, as the source states it (`Learnt`, with the
-- arguments a, the result r and the exits s in the order of the parameters), is what this page says of it: for any
-- octets, any record of a device and of a scan, any lent buffer. That nothing is asked of the caller (`AsksNothing`) is a
-- lemma of every public function, FUNCTION-asks of crates/NAME/proofs/Only.antt; Index.antt has those of these functions.
-- Proved by citation. Assumes nothing.
use Rattle.std.proofs.Common.{Result, Ok, Err, Some, None}
use mathlib.Core.Path.{◌≡◌, refl, sym, ap, ◌∙◌}
use mathlib.Core.Bool.{Bool, true, false}
use mathlib.Core.List.{List, ◌∷◌}
use mathlib.Core.Logic.Iff
use mathlib.Core.Logic.{◌↔◌, ◌⊎◌, inr, ⊎_elim}
use mathlib.Core.Option.{none, some}
use Prim.Native.Nat.{ℕ, ◌-◌, ◌<◌, ◌≤◌}
use native.Mathlib.Omega.{arith}
use lib.ListN.{length, get_or}
use Rattle.std.specs.Prelude.{Result}
use Rattle.octets.specs.Octets.{OneOf, ◌at_start_of◌}
use Rattle.octets.proofs.Words.{true-not-false}
use Rattle.refusal.specs.Answer.{Answer, gives, refuses, handed_out, answer_of, counted, out_after, Hands}
use Rattle.refusal.specs.Answer.{settled, state_after, made_of, Changes}
use Rattle.refusal.specs.Numbers.{number_of}
use Rattle.refusal.specs.declared.Refusal.{Refusal}
use Rattle.refusal.proofs.Answers.{gives-not-refuses, gives_same, refusal-told, change-told, unchange-told}
use Rattle.refusal.proofs.hand_out.Reads as hand-out-reads
use Rattle.capi.proofs.Tells.{Tells, decode-tells, write-tells}
use Rattle.capi.proofs.gorittaem_decode.Reads as c-decode-reads
use Rattle.capi.proofs.gorittaem_decode_n.Reads as c-decode-n-reads
use Rattle.capi.proofs.gorittaem_receive.Reads as c-receive-reads
use Rattle.capi.proofs.gorittaem_write.Reads as c-write-reads
use Rattle.capi.proofs.gorittaem_write_n.Reads as c-write-n-reads
use Rattle.frame.proofs.decode.Reads as decode-reads
use Rattle.frame.proofs.deliver.Reads as deliver-reads
use Rattle.receiver.proofs.new.Reads as receiver-new-reads
use Rattle.receiver.proofs.receive.Reads as receive-reads
use Rattle.block.proofs.receive.Reads as block-receive-reads
use Rattle.receiver.proofs.receive_in.Reads as receive-in-reads
use Rattle.salvage.proofs.new.Reads as salvage-new-reads
use Rattle.salvage.proofs.read.Reads as read-reads
use Rattle.salvage.proofs.finish.Reads as finish-reads
use Rattle.salvage.specs.Holding.{holding_of}
use Rattle.salvage.specs.Work.{salvaged, finished}
use Rattle.salvage.specs.declared.Salvage.{Salvage}
use Rattle.capture.specs.Turns.{fresh_holding, ReadTells, FinishTells}
use Rattle.capture.proofs.Told.{read-tells, finish-tells}
use Rattle.receiver.specs.Held.{held_of}
use Rattle.receiver.specs.Call.{received, held_by}
use Rattle.receiver.specs.declared.Receiver.{Receiver}
use Rattle.block.specs.Block.{held_in, block_after}
use Rattle.live.specs.Calls.{CallTells}
use Rattle.live.specs.InC.{ReceiveTells}
use Rattle.live.proofs.Answered.{receives-tells}
use Rattle.live.proofs.Steps.{fresh}
use Rattle.live.proofs.InC.{receive-tells, block-tells}
use Rattle.writer.proofs.write.Reads as write-reads
use Rattle.scan.proofs.probe.Reads as probe-reads
use Rattle.scanner.proofs.report.Reads as report-reads
use Rattle.fresh.proofs.fresh.Reads as fresh-reads
use Rattle.event.proofs.happen.Reads as happen-reads
use Rattle.device.proofs.judge.Reads as judge-reads
use Rattle.device.proofs.hear.Reads as hear-reads
use Rattle.drives.proofs.obey.Reads as obey-reads
use Rattle.drives.specs.Drives.{After, obeyed, reply_of}
use Rattle.drives.proofs.Keeps.{is_no, no-keeps}
use Rattle.antenna.specs.Motions.{aimed_at, aim_number, Aims}
use Rattle.antenna.specs.declared.Antenna.{Antenna}
use Rattle.antenna.specs.declared.Unaimed.{Unaimed}
use Rattle.aim.proofs.aim_at.Reads as aim-reads
use Rattle.frame.specs.Line.{broken, plain}
use Rattle.frame.specs.Decode.{body, right_check, decoded, framed}
use Rattle.frame.specs.Write.{line_of, written}
use Rattle.frame.proofs.Lines.{broken-exactly}
use Rattle.limits.specs.Limits.{is_limit}
use Rattle.limits.proofs.Exactly.{is-limit-exactly, limit-least}
use Rattle.frame.proofs.Exact.{Sized, decode-6, decode-4, decode-1, decode-2, decode-3, decode-5}
use Rattle.frame.proofs.Exact.{write-6, write-9, write-5}
use Rattle.scan.specs.Scan.{over, probed, reported}
use Rattle.scan.specs.declared.Scan.{Scan}
use Rattle.scan.proofs.Refusals.{Over, over-exactly, report-seven, probe-seven, probe-five}
use Rattle.record.specs.declared.Device.{Device}
use Rattle.record.specs.declared.Event.{Event}
use Rattle.record.specs.declared.Span.{Span}
use Rattle.record.specs.Allowed.{limit_of, allowed_device, AllowedRecord}
use Rattle.record.specs.Fresh.{fresh_of, data_allowed, AllowedData, antenna_from}
use Rattle.record.specs.Changes.{can_be, CanHappen, happened}
use Rattle.record.proofs.Only.{fresh-6, happen-6, happen-8}
use Rattle.record.proofs.Exactly.{allowed-exactly, data-exactly, can-exactly}
use Rattle.station.specs.declared.Say.{Say}
use Rattle.link.specs.Link.{judged_frame}
use Rattle.conduct.proofs.Comes.{silence-keeps}
use Rattle.speech.specs.Speech.{frame_by}
use Rattle.device.proofs.Only.{none-not-some}
use Rattle.device.specs.Judge.{Said, Reaction, reacts, reaction_of, judged, heard, Judges}
use Rattle.device.proofs.Hearing.{Readable}
use Rattle.device.proofs.Exact.{judge-6, judge-5, judge-answer, hear-4, hear-1, hear-2, hear-3, hear-6, hear-5}
use Rattle.device.proofs.Exact.{hear-answer, refused-keeps, silence-tells, frame-tells}
use Rattle.device.proofs.Fits.{answer-fits}

-- ---- the three ways

-- octets handed out, as the answer x has them, at the start of the lent output o, which is o' afterwards; or the number
-- of x, and the output as it was
pub data Hands-out (x : Answer (List ℕ)) (o : List ℕ) (r : Result ℕ Refusal) (o' : List ℕ) : Type 0 where
  handed : (b : List ℕ) → x ≡ gives b → r ≡ Ok (length b) → o' ≡ b at_start_of o → Hands-out x o r o'
  refusal : (k : Refusal) → x ≡ refuses (number_of k) → r ≡ Err k → o' ≡ o → Hands-out x o r o'

hands_out : {o o' : List ℕ} (x : Answer (List ℕ)) (r : Result ℕ Refusal) → Hands x o r o' → Hands-out x o r o'
unfolding answer_of counted out_after
hands_out (gives b) (Ok n) h = handed b refl (ap Ok (gives_same h.answer)) h.octets
hands_out (refuses k) (Ok n) h = absurd (gives-not-refuses h.answer)
hands_out x (Err k) h = let (number, same) = refusal-told x h in refusal k number refl same

-- a state changed, as the answer x has it; or the number of x, and the state s as it was
pub data Changes-to {S : Type 0} (x : Answer S) (s : S) (r : Result (Unit {0}) Refusal) (s' : S) : Type 0 where
  done : x ≡ gives s' → r ≡ (Ok tt) → Changes-to x s r s'
  refusal : (k : Refusal) → x ≡ refuses (number_of k) → r ≡ Err k → s' ≡ s → Changes-to x s r s'

changes-to : {S : Type 0} {s s' : S} (x : Answer S) (r : Result (Unit {0}) Refusal) → Changes x s r s' → Changes-to x s r s'
changes-to x (Ok tt) c = done (change-told x c) refl
changes-to x (Err k) c = let (number, same) = unchange-told x c in refusal k number refl same

-- what is made, as the answer x has it; or the number of x
pub data Makes {S : Type 0} (x : Answer S) (r : Result S Refusal) : Type 0 where
  made : (s : S) → x ≡ gives s → r ≡ Ok s → Makes x r
  refusal : (k : Refusal) → x ≡ refuses (number_of k) → r ≡ Err k → Makes x r

makes : {S : Type 0} (x : Answer S) (r : Result S Refusal) → made_of r ≡ x → Makes x r
unfolding made_of
makes x (Ok s) e = made s (sym e) refl
makes x (Err k) e = refusal k (sym e) refl

-- what becomes of the device d and of the answer buffer o, as the answer x has it: r, d' and o'
pub data Defined (x : Answer Reaction) (d : Device) (o : List ℕ) (r : Said) (d' : Device) (o' : List ℕ) : Type 0 where
  -- the frame of x, of 2 to 76 octets, that carries the device's address, at the start of the buffer; and x's device
  frame : (y : Reaction) (g : List ℕ) → x ≡ gives y → y.frame ≡ some g → r ≡ Ok (Some (length g))
      → d' ≡ y.device → 2 ≤ length g → length g ≤ 76 → get_or g 0 0 ≡ d'.station.desk.address
      → o' ≡ g at_start_of o → Defined x d o r d' o'
  -- silence, where x has no frame: the device and the buffer as they were
  silence : (y : Reaction) → x ≡ gives y → y.frame ≡ none → r ≡ Ok None → d' ≡ d → o' ≡ o
      → Defined x d o r d' o'
  -- the number of x: the device and the buffer as they were
  refusal : (k : Refusal) → x ≡ refuses (number_of k) → r ≡ Err k → d' ≡ d → o' ≡ o
      → Defined x d o r d' o'

-- no frame is said by silence alone, which changes no device
unsaid : (d : Device) (f : List ℕ) → frame_by (judged_frame d f).device (judged_frame d f).say ≡ none
    → (judged_frame d f).device ≡ d
unfolding frame_by
unsaid d f = go (judged_frame d f).say refl
  where
    go : (w : Say) → (judged_frame d f).say ≡ w → frame_by (judged_frame d f).device w ≡ none
        → (judged_frame d f).device ≡ d
    go Say.Silence e h = silence-keeps d f e
    go (Say.Bare c) e h = absurd (none-not-some (sym h))
    go (Say.Reject c v w) e h = absurd (none-not-some (sym h))
    go (Say.Pend c) e h = absurd (none-not-some (sym h))
    go Say.Scanned e h = absurd (none-not-some (sym h))
    go Say.Assigned e h = absurd (none-not-some (sym h))
    go (Say.Negotiated a) e h = absurd (none-not-some (sym h))

-- by any answer that comes of a frame, judged by an allowed device
defined : (x : Answer Reaction) (d : Device) (f o : List ℕ) {r : Said} {d' : Device} {o' : List ℕ}
    → ((y : Reaction) → x ≡ gives y → (allowed_device d ≡ true) × (reaction_of (judged_frame d f) ≡ y))
    → Judges x d o r d' o' → Defined x d o r d' o'
unfolding reacts
defined x d f o {r} {d'} {o'} came w = go r refl
  where
    go : (s : Said) → r ≡ s → Defined x d o r d' o'
    go (Ok None) e =
        let (y, is, none_said, device, octets) = silence-tells x e w in
        let (allowed, reacted) = came y is in
        let there = unsaid d f (ap (λ (z : Reaction). z.frame) reacted ∙ none_said) in
        silence y is none_said e (device ∙ sym (ap (λ (z : Reaction). z.device) reacted) ∙ there) octets
    go (Ok (Some n)) e =
        let (y, g, is, framed, count, device, octets) = frame-tells x n e w in
        let (allowed, reacted) = came y is in
        let (least, most, address) =
        answer-fits d f g allowed (ap (λ (z : Reaction). z.frame) reacted ∙ framed) in
        let there = ap (λ (z : Reaction). z.device.station.desk.address) reacted in
        frame y g is framed (e ∙ ap (λ (i : ℕ). Ok (Some i)) count) device least most
        (address ∙ there ∙ sym (ap (λ (b : Device). b.station.desk.address) device)) octets
    go (Err k) e =
        let (number, device, octets) = refused-keeps x k e w in refusal k number e device octets

-- ---- of each public function that can refuse: "a defined answer", and "A refusal changes no device, no scan and no octet
-- of the caller's buffers"

-- octets from between two flags, heard by a device; octets that are taken for a decoded frame
pub hear-defined : (κs : _) (a : _) (r : _) (s : _) → hear-reads.Learnt κs a r s
    → Defined (heard a.0.now a.1.0.now (length a.1.1.0.now)) a.0.now a.1.1.0.now r s.0.now s.1.1.0.now
hear-defined κs a r s =
    let line = a.1.0.now in
    let room = length a.1.1.0.now in
    defined (heard a.0.now line room) a.0.now (body (plain line)) a.1.1.0.now
    (λ y e. let g = (hear-answer a.0.now line room y).0 e in (g.1, g.3))

pub judge-defined : (κs : _) (a : _) (r : _) (s : _) → judge-reads.Learnt κs a r s
    → Defined (judged a.0.now a.1.0.now (length a.1.1.0.now)) a.0.now a.1.1.0.now r s.0.now s.1.1.0.now
judge-defined κs a r s =
    let f = a.1.0.now in
    let room = length a.1.1.0.now in
    defined (judged a.0.now f room) a.0.now f a.1.1.0.now
    (λ y e. let g = (judge-answer a.0.now f room y).0 e in (g.0, g.2))

-- the codec, with any number for the frame limit
pub decode-answers : (κs : _) (a : _) (r : _) (s : _) → decode-reads.Learnt κs a r s
    → Hands-out (decoded a.0 a.1.0.now (length a.1.1.0.now)) a.1.1.0.now r s.1.1.0.now
decode-answers κs a r s = hands_out _ r

pub write-answers : (κs : _) (a : _) (r : _) (s : _) → write-reads.Learnt κs a r s
    → Hands-out (written a.0 a.1.0 a.1.1.0 a.1.1.1.0.now (length a.1.1.1.1.0.now))
    a.1.1.1.1.0.now r s.1.1.1.1.0.now
write-answers κs a r s = hands_out _ r

pub hand-out-answers : (κs : _) (a : _) (r : _) (s : _) → hand-out-reads.Learnt κs a r s
    → Hands-out (handed_out a.0.now (length a.1.0.now)) a.1.0.now r s.1.0.now
hand-out-answers κs a r s = hands_out _ r

-- what the decoder and the receiver say of decoded octets
pub deliver-answers : (κs : _) (a : _) (r : _) (s : _) → deliver-reads.Learnt κs a r s
    → Hands-out (framed a.0 a.1.0.now (length a.1.1.0.now)) a.1.1.0.now r s.1.1.0.now
deliver-answers κs a r s = hands_out _ r

-- 02 (i), the receiver, with any record, any number for the frame limit and any run: what is told, how many octets were taken,
-- the record and its store, and the output; or a number, and all is as it was
pub receive-answers : (κs : _) (a : _) (r : _) (s : _) → receive-reads.Learnt κs a r s
    → CallTells (received a.1.0 (held_of a.0.now a.1.1.1.0.now) a.1.1.0.now
    (length a.1.1.1.1.0.now)) (held_of a.0.now a.1.1.1.0.now) a.1.1.0.now
    a.1.1.1.1.0.now r (held_of s.0.now s.1.1.1.0.now) s.1.1.1.1.0.now
receive-answers κs a r s =
    receives-tells a.1.0 (held_of a.0.now a.1.1.1.0.now) a.1.1.0.now a.1.1.1.1.0.now

pub receive-in-answers : (κs : _) (a : _) (r : _) (s : _) → receive-in-reads.Learnt κs a r s
    → CallTells (received a.1.0 (held_of a.0.now a.1.1.1.0.now) a.1.1.0.now
    (length a.1.1.1.1.0.now)) (held_of a.0.now a.1.1.1.0.now) a.1.1.0.now
    a.1.1.1.1.0.now r (held_of s.0.now s.1.1.1.0.now) s.1.1.1.1.0.now
receive-in-answers κs a r s =
    receives-tells a.1.0 (held_of a.0.now a.1.1.1.0.now) a.1.1.0.now a.1.1.1.1.0.now

-- a new one is before any octet, whatever its store holds
pub receiver-new-answers : (κs : _) (a : _) (r : _) (s : _) → receiver-new-reads.Learnt κs a r s → (m : List ℕ)
    → held_of r m ≡ fresh m
receiver-new-answers κs a r s e m = ap (λ (q : Receiver). held_of q m) e

-- 02 (vii), a capture's octets, with any record, any number for the frame limit and any run: what is listed, how many octets
-- were taken, the record and its stores, and what stands in the output; or a number, and all is as it was; the last call,
-- likewise; and a new record is before any octet, whatever its stores hold
pub read-answers : (κs : _) (a : _) (r : _) (s : _) → read-reads.Learnt κs a r s
    → ReadTells (salvaged a.1.0 (holding_of a.0.now a.1.1.1.0.now a.1.1.1.1.0.now) a.1.1.0.now
    (length a.1.1.1.1.1.0.now)) (holding_of a.0.now a.1.1.1.0.now a.1.1.1.1.0.now)
    a.1.1.0.now a.1.1.1.1.1.0.now r (holding_of s.0.now s.1.1.1.0.now s.1.1.1.1.0.now)
    s.1.1.1.1.1.0.now
read-answers κs a r s =
    read-tells a.1.0 (holding_of a.0.now a.1.1.1.0.now a.1.1.1.1.0.now) a.1.1.0.now
    a.1.1.1.1.1.0.now (holding_of s.0.now s.1.1.1.0.now s.1.1.1.1.0.now) s.1.1.1.1.1.0.now r

pub finish-answers : (κs : _) (a : _) (r : _) (s : _) → finish-reads.Learnt κs a r s
    → FinishTells (finished a.0.now) a.0.now r s.0.now
finish-answers κs a r s = finish-tells (finished a.0.now) a.0.now r s.0.now

pub salvage-new-answers : (κs : _) (a : _) (r : _) (s : _) → salvage-new-reads.Learnt κs a r s → (m w : List ℕ)
    → holding_of r m w ≡ fresh_holding m w
salvage-new-answers κs a r s e m w = ap (λ (v : Salvage). holding_of v m w) e

-- with the record in a block of octets: as above, and the block after it, as it was where the call is refused
pub block-receive-answers : (κs : _) (a : _) (r : _) (s : _) → block-receive-reads.Learnt κs a r s
    → CallTells (received a.1.0 (held_in a.0.now) a.1.1.0.now (length a.1.1.1.0.now))
    (held_in a.0.now) a.1.1.0.now a.1.1.1.0.now r
    (held_by (received a.1.0 (held_in a.0.now) a.1.1.0.now (length a.1.1.1.0.now))
    (held_in a.0.now)) s.1.1.1.0.now
    × (s.0.now ≡ block_after (received a.1.0 (held_in a.0.now) a.1.1.0.now
    (length a.1.1.1.0.now)) a.0.now)
block-receive-answers κs a r s = block-tells a.1.0 a.0.now a.1.1.0.now a.1.1.1.0.now

-- codec and receiver, to a program in C: the number tells the answer
pub c-decode-answers : (κs : _) (a : _) (r : _) (s : _) → c-decode-reads.Learnt κs a r s
    → Tells (decoded 78 a.0.now (length a.1.0.now)) a.1.0.now r s.1.0.now
c-decode-answers κs a r s = decode-tells 78 a.0.now (length a.1.0.now)

pub c-decode-n-answers : (κs : _) (a : _) (r : _) (s : _) → c-decode-n-reads.Learnt κs a r s
    → Tells (decoded a.0 a.1.0.now (length a.1.1.0.now)) a.1.1.0.now r s.1.1.0.now
c-decode-n-answers κs a r s = decode-tells a.0 a.1.0.now (length a.1.1.0.now)

pub c-receive-answers : (κs : _) (a : _) (r : _) (s : _) → c-receive-reads.Learnt κs a r s
    → ReceiveTells (received a.1.0 (held_in a.0.now) a.1.1.0.now (length a.1.1.1.0.now))
    a.0.now a.1.1.0.now a.1.1.1.0.now a.1.1.1.1.0.now r s.0.now s.1.1.1.0.now
    s.1.1.1.1.0.now
c-receive-answers κs a r s = receive-tells a.1.0 a.0.now a.1.1.0.now a.1.1.1.0.now

pub c-write-answers : (κs : _) (a : _) (r : _) (s : _) → c-write-reads.Learnt κs a r s
    → Tells (written 78 a.0 a.1.0 a.1.1.0.now (length a.1.1.1.0.now)) a.1.1.1.0.now r
    s.1.1.1.0.now
c-write-answers κs a r s = write-tells 78 a.0 a.1.0 a.1.1.0.now (length a.1.1.1.0.now)

pub c-write-n-answers : (κs : _) (a : _) (r : _) (s : _) → c-write-n-reads.Learnt κs a r s
    → Tells (written a.0 a.1.0 a.1.1.0 a.1.1.1.0.now (length a.1.1.1.1.0.now))
    a.1.1.1.1.0.now r s.1.1.1.1.0.now
c-write-n-answers κs a r s =
    write-tells a.0 a.1.0 a.1.1.0 a.1.1.1.0.now (length a.1.1.1.1.0.now)

-- a scan: asking changes nothing in it, so it is not handed back
pub probe-answers : (κs : _) (a : _) (r : _) (s : _) → probe-reads.Learnt κs a r s
    → Hands-out (probed a.0 (length a.1.0.now)) a.1.0.now r s.1.0.now
probe-answers κs a r s = hands_out _ r

pub report-answers : (κs : _) (a : _) (r : _) (s : _) → report-reads.Learnt κs a r s
    → Changes-to (reported a.0.now a.1.0) a.0.now r s.0.now
report-answers κs a r s = changes-to _ r

-- a device: a fresh one, and what happens to it
pub fresh-answers : (κs : _) (a : _) (r : _) (s : _) → fresh-reads.Learnt κs a r s
    → Makes (fresh_of a.0.now a.1.0.now a.1.1.0.now a.1.1.1.0.now a.1.1.1.1.0) r
fresh-answers κs a r s = makes _ r

pub happen-answers : (κs : _) (a : _) (r : _) (s : _) → happen-reads.Learnt κs a r s
    → Changes-to (happened a.0.now a.1.0) a.0.now r s.0.now
happen-answers κs a r s = changes-to _ r

-- a tilt asked of a drive: a movement; or its return code, and the antenna as it was
pub data Aims-at (x : Answer Antenna) (n : Antenna) (r : Result (Unit {0}) Unaimed) (m : Antenna) : Type 0 where
  started : x ≡ gives m → aim_number r ≡ gives tt → Aims-at x n r m
  failure : (k : ℕ) → x ≡ refuses k → aim_number r ≡ refuses k → m ≡ n → Aims-at x n r m

aims-at : (x : Answer Antenna) (n : Antenna) (r : Result (Unit {0}) Unaimed) (m : Antenna)
    → Aims x n r m → Aims-at x n r m
unfolding settled state_after
aims-at (gives y) n r m w = started (ap gives (sym w.antenna)) w.aim
aims-at (refuses k) n r m w = failure k refl w.aim w.antenna

pub aim-answers : (κs : _) (a : _) (r : _) (s : _) → aim-reads.Learnt κs a r s
    → Aims-at (aimed_at a.0.now a.1.0) a.0.now r s.0.now
aim-answers κs a r s = aims-at _ a.0.now r s.0.now

-- a command to a row of devices: the row, the answer in the script's words and every lent octet are the definition's
pub obey-answers : (κs : _) (a : _) (r : _) (s : _) → obey-reads.Learnt κs a r s
    → let x = obeyed a.1.0 a.0.now a.1.1.0 a.1.1.1.0.now a.1.1.1.1.0.now in
    (s.0.now ≡ x.after.row) × (reply_of r ≡ x.after.reply) × (s.1.1.1.1.0.now ≡ x.lent)
obey-answers κs a r s w =
    (ap (λ (x : After). x.row) w.after, ap (λ (x : After). x.reply) w.after, w.lent)

-- and a "no", `error` and a word or `refused N`, leaves the row and every lent octet as they were
pub obey-keeps : (κs : _) (a : _) (r : _) (s : _) → obey-reads.Learnt κs a r s → is_no (reply_of r) ≡ true
    → (s.0.now ≡ a.0.now) × (s.1.1.1.1.0.now ≡ a.1.1.1.1.0.now)
obey-keeps κs a r s w said =
    let kept =
    no-keeps a.0.now a.1.1.1.1.0.now a.1.0 a.1.1.0 a.1.1.1.0.now
    (sym (ap (λ (x : After). is_no x.reply) w.after) ∙ said) in
    (ap (λ (x : After). x.row) w.after ∙ kept.0, w.lent ∙ kept.1)

-- ---- which number, "each exactly then", in the order of 01: "The decoder tests 4, 1, 2, 3, 5"; 02 (iv): "outside 78 to
-- 260: refusal 6 first"

-- "78 to 260"
pub limit-words : (N : ℕ) → is_limit N ≡ true ↔ (78 ≤ N) × (N ≤ 260)
limit-words = is-limit-exactly

-- for every number N; "refusal 2 means more than N"
module _ (N : ℕ) (s : List ℕ) (room : ℕ) where
  pub decode-numbers : (decoded N s room ≡ refuses 6 ↔ is_limit N ≡ false)
      × (decoded N s room ≡ refuses 4 ↔ (is_limit N ≡ true) × (broken s ≡ true))
      × (decoded N s room ≡ refuses 1 ↔ (is_limit N ≡ true) × (broken s ≡ false) × (length (plain s) < 4))
      × (decoded N s room ≡ refuses 2
      ↔ (is_limit N ≡ true) × (broken s ≡ false) × (4 ≤ length (plain s)) × (N < length (plain s)))
      × (decoded N s room ≡ refuses 3 ↔ (is_limit N ≡ true) × Sized N s × (right_check (plain s) ≡ false))
      × (decoded N s room ≡ refuses 5
      ↔ (is_limit N ≡ true) × Sized N s × (right_check (plain s) ≡ true) × (room < length (body (plain s))))
  decode-numbers = (
    decode-6 N s room,
    decode-4 N s room,
    decode-1 N s room,
    decode-2 N s room,
    decode-3 N s room,
    decode-5 N s room,
  )

-- so with 01's limit, without the number 6
module _ (s : List ℕ) (room : ℕ) where
  pub decode-numbers-78 : (decoded 78 s room ≡ refuses 4 ↔ broken s ≡ true)
      × (decoded 78 s room ≡ refuses 1 ↔ (broken s ≡ false) × (length (plain s) < 4))
      × (decoded 78 s room ≡ refuses 2 ↔ (broken s ≡ false) × (4 ≤ length (plain s)) × (78 < length (plain s)))
      × (decoded 78 s room ≡ refuses 3 ↔ Sized 78 s × (right_check (plain s) ≡ false))
      × (decoded 78 s room ≡ refuses 5
      ↔ Sized 78 s × (right_check (plain s) ≡ true) × (room < length (body (plain s))))
  decode-numbers-78 = (
    Iff.trans (decode-4 78 s room) (λ w. w.1, λ e. (limit-least, e)),
    Iff.trans (decode-1 78 s room) (λ w. (w.1, w.2), λ w. (limit-least, w.0, w.1)),
    Iff.trans (decode-2 78 s room) (λ w. (w.1, w.2, w.3), λ w. (limit-least, w.0, w.1, w.2)),
    Iff.trans (decode-3 78 s room) (λ w. (w.1, w.2), λ w. (limit-least, w.0, w.1)),
    Iff.trans (decode-5 78 s room) (λ w. (w.1, w.2, w.3), λ w. (limit-least, w.0, w.1, w.2)),
  )

-- "0x7E inside, or 0x7D as the last octet", in words
pub broken-words : (s : List ℕ) → broken s ≡ true ↔ OneOf 0x7E s ⊎ ((0 < length s) × (get_or s (length s - 1) 0 ≡ 0x7D))
broken-words = broken-exactly

-- "the writer 9, then 5", and 6 before them; "9 more than N - 4"
pub write-numbers : (N a c : ℕ) (p : List ℕ) (room : ℕ) → (written N a c p room ≡ refuses 6 ↔ is_limit N ≡ false)
    × (written N a c p room ≡ refuses 9 ↔ (is_limit N ≡ true) × (N - 4 < length p))
    × (written N a c p room ≡ refuses 5
    ↔ (is_limit N ≡ true) × (length p ≤ N - 4) × (room < length (line_of (a ∷ c ∷ p))))
write-numbers N a c p room = (write-6 N a c p room, write-9 N a c p room, write-5 N a c p room)

pub write-numbers-78 : (a c : ℕ) (p : List ℕ) (room : ℕ) → (written 78 a c p room ≡ refuses 9 ↔ 74 < length p)
    × (written 78 a c p room ≡ refuses 5 ↔ (length p ≤ 74) × (room < length (line_of (a ∷ c ∷ p))))
write-numbers-78 a c p room = (
  Iff.trans (write-9 78 a c p room) (λ w. w.1, λ h. (limit-least, h)),
  Iff.trans (write-5 78 a c p room) (λ w. (w.1, w.2), λ w. (limit-least, w.0, w.1)),
)

-- "the scanner 7, then 5"
pub probe-numbers : (s : Scan) (room : ℕ) → (probed s room ≡ refuses 7 ↔ Over s)
    × (probed s room ≡ refuses 5 ↔ (over s ≡ false) × (room < 47))
probe-numbers s room = (Iff.trans (probe-seven s room) (over-exactly s), probe-five s room)

pub report-numbers : (s : Scan) (a : Bool) → reported s a ≡ refuses 7 ↔ Over s
report-numbers s a = Iff.trans (report-seven s a) (over-exactly s)

-- "the device 6, then 5 for a frame or 8 for an event"; 02 (iv): 76 is N - 2, of the link's frame limit N
pub judge-numbers : (d : Device) (f : List ℕ) (room : ℕ) → (judged d f room ≡ refuses 6 ↔ allowed_device d ≡ false)
    × (judged d f room ≡ refuses 5 ↔ (allowed_device d ≡ true) × (room < limit_of d - 2))
judge-numbers d f room = (judge-6 d f room, judge-5 d f room)

pub judge-numbers-78 : (d : Device) (f : List ℕ) (room : ℕ) → limit_of d ≡ 78
    → (judged d f room ≡ refuses 6 ↔ allowed_device d ≡ false)
    × (judged d f room ≡ refuses 5 ↔ (allowed_device d ≡ true) × (room < 76))
judge-numbers-78 d f room is = (
  judge-6 d f room,
  Iff.trans (judge-5 d f room) (λ w. (w.0, omega (arith, w.1, is)), λ w. (w.0, omega (arith, w.1, is))),
)

pub event-numbers : (d : Device) (e : Event) → (happened d e ≡ refuses 6 ↔ allowed_device d ≡ false)
    × (happened d e ≡ refuses 8 ↔ (allowed_device d ≡ true) × (can_be d.antenna e ≡ false))
event-numbers d e = (happen-6 d e, happen-8 d e)

pub fresh-numbers : (i p h s : List ℕ) (w : Span)
    → fresh_of i p h s w ≡ refuses 6 ↔ data_allowed i p h s (antenna_from w) ≡ false
fresh-numbers = fresh-6

-- "device data, or a device record handed in, not allowed" and "a device event that can't be", phrase by phrase: the
-- tests that 6 and 8 go by are true exactly of the records, the data and the events that 01 allows
pub allowed-words : (d : Device) → length d.station.desk.said.flags ≡ length d.station.desk.told.flags
    → allowed_device d ≡ true ↔ AllowedRecord d
allowed-words = allowed-exactly

pub data-words : (i p h s : List ℕ) (w : Span) → data_allowed i p h s (antenna_from w) ≡ true ↔ AllowedData i p h s w
data-words = data-exactly

pub event-words : (n : Antenna) (e : Event) → can_be n e ≡ true ↔ CanHappen n e
event-words = can-exactly

-- octets from the line: 6 for a record whose frame limit is none, the decoder's numbers with that limit at once, then 6,
-- then 5
module _ (d : Device) (s : List ℕ) (room : ℕ) where
  abbrev N : ℕ
  N = limit_of d

  pub hear-numbers : (heard d s room ≡ refuses 6 ↔ (is_limit N ≡ false) ⊎ (Readable N s × (allowed_device d ≡ false)))
      × (heard d s room ≡ refuses 4 ↔ (is_limit N ≡ true) × (broken s ≡ true))
      × (heard d s room ≡ refuses 1 ↔ (is_limit N ≡ true) × (broken s ≡ false) × (length (plain s) < 4))
      × (heard d s room ≡ refuses 2
      ↔ (is_limit N ≡ true) × (broken s ≡ false) × (4 ≤ length (plain s)) × (N < length (plain s)))
      × (heard d s room ≡ refuses 3 ↔ (is_limit N ≡ true) × Sized N s × (right_check (plain s) ≡ false))
      × (heard d s room ≡ refuses 5 ↔ Readable N s × (allowed_device d ≡ true) × (room < N - 2))
  hear-numbers =
      (hear-6 d s room, hear-4 d s room, hear-1 d s room, hear-2 d s room, hear-3 d s room, hear-5 d s room)

  -- so with 01's limit, which no run leaves where no length is asked of the device (`unasked-least` of conduct)
  pub hear-numbers-78 : N ≡ 78 → (heard d s room ≡ refuses 6 ↔ Readable 78 s × (allowed_device d ≡ false))
      × (heard d s room ≡ refuses 4 ↔ broken s ≡ true)
      × (heard d s room ≡ refuses 1 ↔ (broken s ≡ false) × (length (plain s) < 4))
      × (heard d s room ≡ refuses 2 ↔ (broken s ≡ false) × (4 ≤ length (plain s)) × (78 < length (plain s)))
      × (heard d s room ≡ refuses 3 ↔ Sized 78 s × (right_check (plain s) ≡ false))
      × (heard d s room ≡ refuses 5 ↔ Readable 78 s × (allowed_device d ≡ true) × (room < 76))
  hear-numbers-78 is =
      let ok : is_limit N ≡ true = ap is_limit is ∙ limit-least in (
        Iff.trans (hear-6 d s room) (
          ⊎_elim (λ no. absurd (true-not-false (sym ok ∙ no))) (λ w. (rw is at w.0, w.1)),
          λ w. inr (rw is w.0, w.1),
        ),
        Iff.trans (hear-4 d s room) (λ w. w.1, λ e. (ok, e)),
        Iff.trans (hear-1 d s room) (λ w. (w.1, w.2), λ w. (ok, w.0, w.1)),
        Iff.trans (hear-2 d s room)
            (λ w. (w.1, w.2, omega (arith, w.3, is)), λ w. (ok, w.0, w.1, omega (arith, w.2, is))),
        Iff.trans (hear-3 d s room) (λ w. (rw is at w.1, w.2), λ w. (ok, rw is w.0, w.1)),
        Iff.trans (hear-5 d s room) (
          λ w. (rw is at w.0, w.1, omega (arith, w.2, is)),
          λ w. (rw is w.0, w.1, omega (arith, w.2, is)),
        ),
      )
