-- The bench's row of drives. docs/BENCH.md: its tables, the commands for one device, and `device`.
--   ScriptAnswer        == an answer, in the script's words
--   After               == the row after a command, and the answer to it; Came == that, and the lent output, BUFFER
--   value v n           == what the word n stands for
--   is_tilt v           == the number v is a tilt's pattern; tilt_of v == that tilt;
--                          are_tilts v == the three of `device` are
--   fresh_with v os     == the fresh device of the words; fresh_by v os == that, or 6 for a number that is no tilt
--   adds row v os       == `device`: one more, if there is room and its data is allowed
--   is_device n k       == K is a device of a row with n of them; device_at row place == the one at a place
--   is_value c v        == the number v is a value of the event c; event_of c v == that event
--   happens d c v       == the event c of the value v, of the device d
--   tells_limit row place == `limit`: the frame limit of the device at a place
--   to_device c row k v os o == the command c to the device K, with the value v of an event, or with octets
--   for_device c        == the command c is for one device
--   obeyed c row v os o == the command c with the values v and the octets os, and the lent output o
--   reply_of x          == the answer that the code's answer x is
--   after_of row' r     == the row row' after a command, and the code's answer r
--   Obeys right row' r o' == the row row' after it, the code's answer r and the lent output o' are what is right
-- Assumes nothing.
use Rattle.std.specs.Prelude.{◌≡◌, Bool, cond, not, ◌&&◌, ◌||◌, List, [], ◌∷◌, ℕ, ◌+◌, ◌-◌, ltb, leb, eqb, length, get_or, set}
use Rattle.std.proofs.Math.Option.{Option}
use Rattle.octets.specs.Octets.{low_of, high_of}
use Rattle.refusal.specs.Answer.{Answer, gives, refuses, ◌when◌, answered, outcome_of, settled, state_after}
use Rattle.antenna.specs.declared.Angle.{Angle}
use Rattle.tilt.specs.Tilts.{angle_of}
use Rattle.record.specs.declared.Device.{Device}
use Rattle.record.specs.declared.Event.{Event}
use Rattle.record.specs.declared.Event.TheVariants.{Stopped, Raised, Cleared}
use Rattle.record.specs.Fresh.{fresh_of, blank_device}
use Rattle.record.specs.Allowed.{allowed_device, limit_of}
use Rattle.record.specs.Changes.{can_be, after_event, with_antenna}
use Rattle.device.specs.Judge.{Reaction, judged, heard, said_of, told_of, device_after, buffer_after}
use Rattle.bus.specs.declared.Row.{Row}
use Rattle.bus.specs.Cable.{row_most}
use Rattle.octets.specs.Octets.{part_of}
use Rattle.script.specs.Commands as command
use Rattle.drives.specs.declared.Response as the-response
use Rattle.drives.specs.declared.Response.TheVariants as code

infix 40 ◌saying◌ ◌leaving◌
-- ---- answers

pub data ScriptAnswer : Type 0 where
  -- "`error` and one word: `command` .. `device`"; "a 33rd gets `error full`"
  no_command no_device full : ScriptAnswer
  -- "`device K`, K counts from 1"
  device : ℕ → ScriptAnswer
  -- "`done` or `refused N`"; for a device that is not made "`refused 6`"
  outcome : Answer (Unit {0}) → ScriptAnswer
  -- "`answer LEN BUFFER`, `silence BUFFER` or `refused N BUFFER`"
  answer : Answer (Option ℕ) → ScriptAnswer
  -- "`state LINK ADDRESS PENDING DRIVE TILT RAISED TOLD SUBSCRIBED`", of the device at this place
  state : ℕ → ScriptAnswer
  -- "`limit N`"
  limit : ℕ → ScriptAnswer

pub record After : Type 0 where
  pub row : Row
  pub reply : ScriptAnswer

pub record Came : Type 0 where
  pub after : After
  pub lent : List ℕ

abbrev pub ◌saying◌ : Row → ScriptAnswer → After
row saying x = record { row = row; reply = x }

abbrev pub ◌leaving◌ : After → List ℕ → Came
x leaving o = record { after = x; lent = o }

-- ---- words

abbrev pub value : List ℕ → ℕ → ℕ
value v n = get_or v n 0

-- a tilt's value is its pattern of 16 bits; 01: "in tenths of a degree, signed 16 bits"
unfoldable pub is_tilt : ℕ → Bool
is_tilt v = ltb v 65536

unfoldable pub tilt_of : ℕ → Angle
tilt_of v = angle_of (low_of v) (high_of v)

-- ---- `device IDENTITY PRODUCT HARDWARE SOFTWARE LOWEST HIGHEST PRESENT`

-- each text from where the one before it ends to where it does
unfoldable pub fresh_with : List ℕ → List ℕ → Answer Device
fresh_with v os =
    fresh_of
    (part_of 0 (value v 1) os)
    (part_of (value v 1) (value v 2) os)
    (part_of (value v 2) (value v 3) os)
    (part_of (value v 3) (value v 4) os)
    (record { lowest = tilt_of (value v 5); highest = tilt_of (value v 6); present = tilt_of (value v 7) })

unfoldable pub are_tilts : List ℕ → Bool
are_tilts v = is_tilt (value v 5) && (is_tilt (value v 6) && is_tilt (value v 7))

-- 01: "Lowest, highest and present tilt .., signed 16 bits .. Anything else is refusal 6."
unfoldable pub fresh_by : List ℕ → List ℕ → Answer Device
fresh_by v os = cond (are_tilts v) (fresh_with v os) (refuses 6)

-- "A refused device takes no number."
unfoldable pub added : Row → Answer Device → After
added row (refuses k) = row saying outcome (refuses k)
added row (gives d) =
    record { devices = set row.devices row.count d; count = row.count + 1 } saying device (row.count + 1)

-- "up to 32 tilt drives"; "then `error full` for a 33rd, then `refused 6`"
unfoldable pub adds : Row → List ℕ → List ℕ → After
adds row v os = cond (leb row_most row.count) (row saying full) (added row (fresh_by v os))

-- ---- a command to the device K

-- "K counts from 1"
unfoldable pub is_device : ℕ → ℕ → Bool
is_device count k = not (eqb k 0) && (leb k row_most && leb k count)

abbrev pub device_at : Row → ℕ → Device
device_at row place = get_or row.devices place blank_device

unfoldable pub with_device : Row → ℕ → Device → Row
with_device row place d = record { devices = set row.devices place d; count = row.count }

-- "`frame K HEX ROOM` decoded octets, given to device K"; "`hear K HEX ROOM` the octets between two flags, as they come
-- from the line: decoded, then judged by device K"
unfoldable pub listens : ℕ → Device → List ℕ → ℕ → Answer Reaction
listens c d os room = cond (eqb c command.frame) (judged d os room) (heard d os room)

unfoldable pub tells : Row → ℕ → Answer Reaction → List ℕ → Came
tells row place x o =
    (with_device row place (device_after x (device_at row place)) saying answer (told_of x)) leaving buffer_after x o

-- "the motor stopped at T; alarm A (decimal) rises, falls"
unfoldable pub event_of : ℕ → ℕ → Event
event_of c v =
    cond (eqb c command.stopped) (Stopped (tilt_of v)) (cond (eqb c command.raise) (Raised v) (Cleared v))

-- "a tilt outside 16 bits signed, an alarm outside 0 to 255" is none
unfoldable pub is_value : ℕ → ℕ → Bool
is_value c v = cond (eqb c command.stopped) (is_tilt v) (ltb v 256)

-- 01: "the device 6, then .. 8 for an event"; "a device event that can't be", and so one of a value that is none
unfoldable pub happens : Device → ℕ → ℕ → Answer Device
happens d c v =
    answered (6 when not (allowed_device d) ∷ 8 when not (is_value c v && can_be d.antenna (event_of c v)) ∷ [])
    (with_antenna d (after_event d.antenna (event_of c v)))

unfoldable pub befalls : Row → ℕ → Answer Device → After
befalls row place x = with_device row place (state_after x (device_at row place)) saying outcome (settled x)

-- "`limit K` the frame limit of the link of device K"
unfoldable pub tells_limit : Row → ℕ → After
tells_limit row place = row saying limit (limit_of (device_at row place))

-- `frame` and `hear`, `show`, `limit`, and the events
unfoldable pub drives : ℕ → Row → ℕ → ℕ → List ℕ → List ℕ → Came
drives c row place v os o =
    cond (leb c command.hear) (tells row place (listens c (device_at row place) os (length o)) o)
    (cond (eqb c command.show) ((row saying state place) leaving o)
    (cond (eqb c command.limit) (tells_limit row place leaving o)
    (befalls row place (happens (device_at row place) c v) leaving o)))

-- "A K that is a number but no device of the bench .. is `error device`"
unfoldable pub to_device : ℕ → Row → ℕ → ℕ → List ℕ → List ℕ → Came
to_device c row k v os o =
    cond (is_device row.count k) (drives c row (k - 1) v os o) ((row saying no_device) leaving o)

-- ---- a command: to a device, or `device`

-- the first of them, up to `clear`, and `limit`
unfoldable pub for_device : ℕ → Bool
for_device c = leb c command.clear || eqb c command.limit

unfoldable pub obeyed : ℕ → Row → List ℕ → List ℕ → List ℕ → Came
obeyed c row v os o =
    cond (for_device c) (to_device c row (value v 1) (value v 2) os o)
    (cond (eqb c command.device) (adds row v os leaving o) ((row saying no_command) leaving o))

-- ---- the code's answers

unfoldable pub reply_of : the-response.Response → ScriptAnswer
reply_of code.NoCommand = no_command
reply_of code.NoDevice = no_device
reply_of code.Full = full
reply_of (code.Device k) = device k
reply_of (code.Outcome x) = outcome (outcome_of x)
reply_of (code.Said x) = answer (said_of x)
reply_of (code.State place) = state place
reply_of (code.Limit n) = limit n

abbrev pub after_of : Row → the-response.Response → After
after_of row' r = row' saying reply_of r

pub record Obeys (right : Came) (row' : Row) (r : the-response.Response) (o' : List ℕ) : Type 0 where
  pub after : after_of row' r ≡ right.after
  pub lent : o' ≡ right.lent
