-- What the bench does with a line, beside what it writes: the row of devices, the scan by hand and the receiver after it,
-- and what is handed out. A command is its place among the names of the script (script/specs/Commands).
--   no_devices         == an empty row
--   hex_in a           == the octets of the HEX words of a; value_in a n == what its word n stands for
--   lent_of room       == a lent output of so many octets
--   is_driven c        == the command c is to the row or to one of its devices
--   row_says c row a   == the row, the answer and the lent output after such a command; row_driven c row a == the row alone;
--                         row_after c row a == the row after any
--   scan_after c s v   == the scan by hand after any command with the value v
--   ear_of e           == the receiver's record and store in e; fresh_ear == before any octet
--   ear_call h a       == the answer to one call; ear_after c h a == the receiver after any command
--   is_decode c        == the command c decodes; is_limited c == its words have a frame limit in front
--   limit_in c a       == its frame limit; octet_in c a n == the octet of the word n, not counting that limit
--   coded c a room     == what the codec hands out; hands_out c s a room == what it and `probe` do
--   room_at c          == the place of ROOM among the words of a command that hands out octets
-- Assumes nothing.
use Rattle.std.specs.Prelude.{Bool, Option, Some, None, cond, ◌||◌, List, ℕ, ◌+◌, ◌%◌, eqb, length, get_or, take, replicate}
use Rattle.refusal.specs.Answer.{Answer, state_after}
use Rattle.limits.specs.Limits.{limit_least}
use Rattle.frame.specs.Decode.{decoded}
use Rattle.frame.specs.Write.{written}
use Rattle.receiver.specs.Held.{Held, held_of, places, fresh_marks}
use Rattle.receiver.specs.Call.{Took, received, held_by}
use Rattle.record.specs.Fresh.{blank_device}
use Rattle.scan.specs.declared.Scan.{Scan}
use Rattle.scan.specs.Scan.{fresh, probed, reported}
use Rattle.script.specs.declared.Asked.{Asked}
use Rattle.script.specs.Commands as command
use Rattle.bus.specs.declared.Row.{Row}
use Rattle.bus.specs.Cable.{row_most}
use Rattle.drives.specs.Drives.{Came, for_device, obeyed}
use Rattle.mast.specs.Mast.{swept}
use Rattle.bench.specs.declared.ear.Ear.{Ear}

-- "up to 32 tilt drives"
unfoldable pub no_devices : Row
no_devices = record { devices = replicate row_most blank_device; count = 0 }

abbrev pub value_in : Asked → ℕ → ℕ
value_in a n = get_or a.values n 0

abbrev pub hex_in : Asked → List ℕ
hex_in a = take a.len a.octets

-- "`ROOM` is the length of the lent output, 0 to 600. Each lent output is filled with 0xa5 before the call"
unfoldable pub lent_of : ℕ → List ℕ
lent_of room = take room (replicate 600 0xA5)

abbrev pub row_says : ℕ → Row → Asked → Came
row_says c row a = obeyed c row a.values (hex_in a) (lent_of (value_in a 3))

unfoldable pub row_driven : ℕ → Row → Asked → Row
row_driven c row a = (row_says c row a).after.row

-- the commands for one device, and `device`
unfoldable pub is_driven : ℕ → Bool
is_driven c = for_device c || eqb c command.device

-- "a scan of the bench from its start to its end"
unfoldable pub row_after : ℕ → Row → Asked → Row
row_after c row a =
    cond (is_driven c) (row_driven c row a)
    (cond (eqb c command.scan) (swept row (value_in a 1 % 65536)).row row)

-- "the bench's one scan record is made anew"; "an answer to it", 1 where it was heard
unfoldable pub scan_after : ℕ → Scan → ℕ → Scan
scan_after c s v =
    cond (eqb c command.begin) (fresh (v % 65536))
    (cond (eqb c command.report) (state_after (reported s (eqb v 1)) s) s)

abbrev pub ear_of : Ear → Held
ear_of e = held_of e.receiver e.store

-- "the bench's one receiver is made anew"; "Before any `listen` the receiver is a fresh one"
unfoldable pub fresh_ear : Held
fresh_ear = held_of fresh_marks (replicate places 0)

-- "`octets N HEX ROOM` one call: the octets are lent to the receiver, with the frame limit N and an output of ROOM octets"
unfoldable pub ear_call : Held → Asked → Answer Took
ear_call h a = received (value_in a 1) h (hex_in a) (length (lent_of (value_in a 3)))

-- "Octets that `octets` did not take are forgotten by the bench"
unfoldable pub ear_after : ℕ → Held → Asked → Held
ear_after c h a =
    cond (eqb c command.listen) fresh_ear (cond (eqb c command.octets) (held_by (ear_call h a) h) h)

unfoldable pub is_decode : ℕ → Bool
is_decode c = eqb c command.decode || eqb c command.decode_n

-- "`decode-n N HEX ROOM` · `write-n N ADDRESS CONTROL HEX ROOM` as `decode` and `write`, with the frame limit N"
unfoldable pub is_limited : ℕ → Bool
is_limited c = eqb c command.decode_n || eqb c command.write_n

unfoldable pub limit_in : ℕ → Asked → ℕ
limit_in c a = cond (is_limited c) (value_in a 1) limit_least

unfoldable pub octet_in : ℕ → Asked → ℕ → ℕ
octet_in c a n = cond (is_limited c) (value_in a (n + 1)) (value_in a n) % 256

-- "the octets between two flags"; "address and control are two hex digits each"
unfoldable pub coded : ℕ → Asked → ℕ → Answer (List ℕ)
coded c a room =
    cond (is_decode c) (decoded (limit_in c a) (hex_in a) room)
    (written (limit_in c a) (octet_in c a 1) (octet_in c a 2) (hex_in a) room)

-- "the next probe of that record"
unfoldable pub hands_out : ℕ → Scan → Asked → ℕ → Answer (List ℕ)
hands_out c s a room = cond (eqb c command.probe) (probed s room) (coded c a room)

-- "`probe ROOM`", "`decode HEX ROOM`", "`write ADDRESS CONTROL HEX ROOM`", and one place on behind a limit
unfoldable pub room_at : ℕ → Option ℕ
room_at c =
    cond (eqb c command.probe) (Some 1)
    (cond (eqb c command.decode) (Some 2)
    (cond (eqb c command.write) (Some 4)
    (cond (eqb c command.decode_n) (Some 3) (cond (eqb c command.write_n) (Some 5) None))))
