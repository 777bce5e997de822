-- A row of devices on one cable. "The master writes the probe as a line, each device hears what lies between its flags,
-- and 'heard' is that at least one device answered with a frame." All of it is said in what the crates below promise:
-- `written` of the writer, `heard` of a device, `probe_of` of the scanner.
--   row_most         == the most devices of a row in memory
--   identity_in d    == the identity of the device d, unpadded; padded_in d == padded with 0x20 to 19
--   Cabled ds        == the records ds may hang on one cable: allowed, with different padded identities
--   line_with N f    == the line that the master writes for the frame f of address, control and payload, with the frame
--                       limit N; line_for f == with 78, which every link has room for
--   octets_given x   == the octets of an answer of the writer; none for a number
--   hears d l        == what comes of the line l at the device d; with_frame x == an answer with a frame comes of it
--   replies_to d l   == d answers the line l with a frame; after_line d l == d afterwards
--   any_replies ds l == at least one of ds answers the line l; all_after ds l == ds afterwards
--   after_lines ls d == d after the lines ls, one after the other; all_after_lines ls ds == the row after them
--   heard_on ds p    == the probe of the beginning p, written as a line, is heard
-- Assumes nothing.
use Rattle.std.specs.Prelude.{◌≡◌, Bool, true, false, ◌||◌, ℕ, get_or, drop}
use mathlib.Core.List.{List, [], ◌∷◌, map, Memᴰ}
use Rattle.std.proofs.Math.Option.{Option, none, some}
use Rattle.refusal.specs.Answer.{Answer, gives, refuses}
use Rattle.limits.specs.Limits.{limit_least, limit_most, frame_most, line_most}
use Rattle.frame.specs.Line.{inside}
use Rattle.frame.specs.Write.{written}
use Rattle.identity.specs.Bits.{Bits}
use Rattle.identity.specs.Identity.{padded}
use Rattle.identity.specs.Order.{Different}
use Rattle.record.specs.declared.Device.{Device}
use Rattle.record.specs.Allowed.{identity_of, allowed_device}
use Rattle.device.specs.Judge.{Reaction, heard, device_after}
use Rattle.scan.specs.Scan.{probe_of}

-- "up to 32" devices: the places of a row in memory
abbrev pub row_most : ℕ
row_most = 32

abbrev pub identity_in : Device → List ℕ
identity_in d = identity_of d.plate

abbrev pub padded_in : Device → List ℕ
padded_in d = padded (identity_in d)

-- "a row of .. allowed device records with different padded identities on one cable"
pub record Cabled (ds : List Device) : Type 0 where
  pub allowed : (d : Device) → Memᴰ d ds → allowed_device d ≡ true
  pub apart : Different (map padded_in ds)

-- what the writer gives; a refusal gives no octet
unfoldable pub octets_given : Answer (List ℕ) → List ℕ
octets_given (gives l) = l
octets_given (refuses k) = []

-- 01: "The writer gives flag, frame, flag"; "at most 158", which is 2N + 2, and so many are lent
unfoldable pub line_with : ℕ → List ℕ → List ℕ
line_with N f = octets_given (written N (get_or f 0 0) (get_or f 1 0) (drop 2 f) (line_most N))

abbrev pub line_for : List ℕ → List ℕ
line_for f = line_with limit_least f

-- "each device hears what lies between its flags", with an answer buffer of 258 octets: what the largest frame limit asks
-- for, so that no device looks absent
unfoldable pub hears : Device → List ℕ → Answer Reaction
hears d l = heard d (inside l) (frame_most limit_most)

-- an answer with a frame; silence is none, and so is a number
unfoldable pub is_frame : Option (List ℕ) → Bool
is_frame none = false
is_frame (some f) = true

unfoldable pub with_frame : Answer Reaction → Bool
with_frame (gives x) = is_frame x.frame
with_frame (refuses k) = false

abbrev pub replies_to : Device → List ℕ → Bool
replies_to d l = with_frame (hears d l)

abbrev pub after_line : Device → List ℕ → Device
after_line d l = device_after (hears d l) d

-- "at least one device answered with a frame"
unfoldable pub any_replies : List Device → List ℕ → Bool
any_replies [] l = false
any_replies (d ∷ ds) l = replies_to d l || any_replies ds l

unfoldable pub all_after : List Device → List ℕ → List Device
all_after [] l = []
all_after (d ∷ ds) l = after_line d l ∷ all_after ds l

unfoldable pub after_lines : List (List ℕ) → Device → Device
after_lines [] d = d
after_lines (l ∷ ls) d = after_lines ls (after_line d l)

unfoldable pub all_after_lines : List (List ℕ) → List Device → List Device
all_after_lines [] ds = ds
all_after_lines (l ∷ ls) ds = all_after_lines ls (all_after ds l)

-- 01: "Any reply, garbled or whole, is "heard""
abbrev pub heard_on : List Device → Bits → Bool
heard_on ds p = any_replies ds (line_for (probe_of p))
