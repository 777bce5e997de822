-- The words of the bench's answers, a case for each. docs/BENCH.md: its table, and "`show`".
--   fault_word f     == a line with the fault f
--   reply_word x     == the answer x of the row of devices; outcome_word x, said_word x == its parts
--   handed_word c x  == the command c, of `probe`, `decode`, `write`, `decode-n` and `write-n`, that was to hand out octets
--                       and answers x; given_word c == where it did
--   heard_word x     == what a call of the receiver told, x; told_word q == one that is not refused, what it handed out
--   end_word s       == a scan that stands at s; behind_of s == how many words stand behind its count
--   link_word, pending_word, drive_word == LINK, PENDING and DRIVE of `show`, up to a number or octets
--   word_of t        == the word for t
-- Assumes nothing.
use Rattle.std.specs.Prelude.{Option, Some, None, Result, Ok, Err}
use Rattle.std.specs.Prelude.{cond, List, ℕ, eqb}
use Rattle.refusal.specs.declared.Refusal.{Refusal}
use Rattle.receiver.specs.declared.Received.{Received}
use Rattle.antenna.specs.declared.Motion.{Motion}
use Rattle.antenna.specs.declared.Motion.TheVariants.{Still, Moving, Owing, Stopped}
use Rattle.record.specs.declared.Link.{Link}
use Rattle.record.specs.declared.Link.TheVariants.{NoAddress, AddressAssigned, Connected}
use Rattle.record.specs.declared.Pending.{Pending}
use Rattle.record.specs.declared.Pending.TheVariants as pending
use Rattle.scan.specs.declared.State.{State}
use Rattle.scan.specs.declared.State.TheVariants as scan
use Rattle.script.specs.declared.Fault.{Fault}
use Rattle.script.specs.declared.Fault.TheVariants as fault
use Rattle.script.specs.Words.{spelled}
use Rattle.script.specs.Commands as command
use Rattle.device.specs.Judge.{Said}
use Rattle.drives.specs.declared.Response.{Response}
use Rattle.drives.specs.declared.Response.TheVariants as reply
use Rattle.terms.specs.declared.Term.{Term}
use Rattle.terms.specs.declared.Term.TheVariants as term

-- "`error` and one word: `command`, `words`, `hex`, `number`, `room`, `device`, `long`"
unfoldable pub fault_word : Fault → List ℕ
fault_word fault.Long = spelled "error long"
fault_word fault.Command = spelled "error command"
fault_word fault.Words = spelled "error words"
fault_word fault.Hex = spelled "error hex"
fault_word fault.Number = spelled "error number"
fault_word fault.Room = spelled "error room"
fault_word fault.Device = spelled "error device"

-- "`done` or `refused N`"
unfoldable pub outcome_word : Result (Unit {0}) Refusal → List ℕ
outcome_word (Ok tt) = spelled "done"
outcome_word (Err k) = spelled "refused"

-- "`answer LEN BUFFER`, `silence BUFFER` or `refused N BUFFER`"
unfoldable pub said_word : Said → List ℕ
said_word (Ok None) = spelled "silence"
said_word (Ok (Some n)) = spelled "answer"
said_word (Err k) = spelled "refused"

-- "`device K` ..; or `refused 6`; a 33rd gets `error full`"; "`state LINK .."; "`limit N`"
unfoldable pub reply_word : Response → List ℕ
reply_word reply.NoCommand = spelled "error command"
reply_word reply.NoDevice = spelled "error device"
reply_word reply.Full = spelled "error full"
reply_word (reply.Device k) = spelled "device"
reply_word (reply.Outcome x) = outcome_word x
reply_word (reply.Said x) = said_word x
reply_word (reply.State place) = spelled "state"
reply_word (reply.Limit n) = spelled "limit"

-- "`probe LEN BUFFER`", "`frame LEN BUFFER`", "`line LEN BUFFER` or `refused N BUFFER`"; "as `decode` and `write`"
unfoldable pub given_word : ℕ → List ℕ
given_word c =
    cond (eqb c command.probe) (spelled "probe")
    (cond (eqb c command.decode) (spelled "frame") (cond (eqb c command.decode_n) (spelled "frame") (spelled "line")))

unfoldable pub handed_word : ℕ → Result ℕ Refusal → List ℕ
handed_word c (Ok n) = given_word c
handed_word c (Err k) = spelled "refused"

-- "`took T frame LEN BUFFER`, `took T refused R BUFFER` .., `took T nothing BUFFER`; or `refused R BUFFER`": at a closing
-- flag, as `decode`
unfoldable pub told_word : Option (Result ℕ Refusal) → List ℕ
told_word None = spelled "nothing"
told_word (Some x) = handed_word command.decode x

unfoldable pub heard_word : Result Received Refusal → List ℕ
heard_word (Ok c) = told_word c.handed
heard_word (Err k) = spelled "refused"

-- "`going COUNT`, one of the four ends": "`complete COUNT LIST`, `doubtful COUNT LIST`, `limit COUNT LIST NEXT` or
-- `full COUNT LIST NEXT`"
unfoldable pub end_word : State → List ℕ
end_word (scan.Asking quiet doubt) = spelled "going"
end_word scan.Complete = spelled "complete"
end_word scan.Doubtful = spelled "doubtful"
end_word scan.Limit = spelled "limit"
end_word scan.Full = spelled "full"

abbrev pub behind_of : State → ℕ
behind_of (scan.Asking quiet doubt) = 0
behind_of scan.Complete = 1
behind_of scan.Doubtful = 1
behind_of scan.Limit = 2
behind_of scan.Full = 2

-- "LINK is `none`, `assigned` or `connected:R:S`"
unfoldable pub link_word : Link → List ℕ
link_word NoAddress = spelled "none"
link_word AddressAssigned = spelled "assigned"
link_word (Connected s) = spelled "connected"

-- "PENDING `-`, or the payload of the pending answer in HEX, with `i:` in front where it is an indication"
unfoldable pub pending_word : Pending → List ℕ
pending_word pending.Nothing = spelled "-"
pending_word pending.Answer = spelled ""
pending_word pending.Indication = spelled "i"

-- "DRIVE `still`, `moving` (nothing owed), `moving:ASKED` (a result owed) or `stopped:ok` / `stopped:jam` (a result
-- that waits)"
unfoldable pub drive_word : Motion → List ℕ
drive_word Still = spelled "still"
drive_word Moving = spelled "moving"
drive_word (Owing asked) = spelled "moving"
drive_word (Stopped reached) = cond reached (spelled "stopped:ok") (spelled "stopped:jam")

unfoldable pub word_of : Term → List ℕ
word_of (term.Fault f) = fault_word f
word_of (term.Reply x) = reply_word x
word_of (term.Outcome x) = outcome_word x
word_of (term.Handed c x) = handed_word c x
word_of (term.Heard x) = heard_word x
word_of (term.End s) = end_word s
word_of (term.Link l) = link_word l
word_of (term.Pending p) = pending_word p
word_of (term.Drive m) = drive_word m
-- "`begun`"
word_of term.Begun = spelled "begun"
-- "`listening`"
word_of term.Listening = spelled "listening"
-- "`took T nothing BUFFER`"
word_of term.Took = spelled "took"
