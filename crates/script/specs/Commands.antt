-- The commands of the bench script: each is known by its place among the names.
--   names        == their names, in the order of their places; kinds == at each place a letter for each word behind it
--   frame .. octets == the place of each
--   commands     == how many there are
-- The first of them are for one device of the row, up to `clear`, and so is `limit`; a new one goes behind the last.
-- Assumes nothing.
use Rattle.std.specs.Prelude.{ℕ}
use Prim.Native.String.{String}

abbrev pub names : String
names = "frame hear show stopped raise clear device scan begin probe report decode write decode-n write-n limit listen octets"

-- x HEX, and the letters of `value_of`; between two spaces none, as behind `listen`
abbrev pub kinds : String
kinds = "dxr dxr d dt da da xxxxttt l l r h xr ooxr lxr looxr d  lxr"

abbrev pub frame : ℕ
frame = 0

abbrev pub hear : ℕ
hear = 1

abbrev pub show : ℕ
show = 2

abbrev pub stopped : ℕ
stopped = 3

abbrev pub raise : ℕ
raise = 4

abbrev pub clear : ℕ
clear = 5

abbrev pub device : ℕ
device = 6

abbrev pub scan : ℕ
scan = 7

abbrev pub begin : ℕ
begin = 8

abbrev pub probe : ℕ
probe = 9

abbrev pub report : ℕ
report = 10

abbrev pub decode : ℕ
decode = 11

abbrev pub write : ℕ
write = 12

abbrev pub decode_n : ℕ
decode_n = 13

abbrev pub write_n : ℕ
write_n = 14

abbrev pub limit : ℕ
limit = 15

abbrev pub listen : ℕ
listen = 16

abbrev pub octets : ℕ
octets = 17

abbrev pub commands : ℕ
commands = 18
