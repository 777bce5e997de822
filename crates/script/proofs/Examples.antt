-- Lines of the bench script and what they ask, computed. Assumes nothing.
use mathlib.Core.Path.{◌≡◌, refl}
use mathlib.Core.Bool.{cond}
use mathlib.Core.List.{List, [], ◌∷◌, map}
use Prim.Native.Nat.{ℕ}
use Rattle.std.specs.Prelude.{Option, Some, None, Result, Ok, Err, option_map}
use Prim.Native.Char.{code}
use Prim.Native.String.{String}
use lib.Dec.{eqb}
use lib.ListN.{length, replicate}
use lib.Seq.{sets}
use Rattle.octets.specs.Octets.{place_of}
use Rattle.identity.specs.Identity.{same}
use Rattle.script.specs.Words.{spelled, first_of, behind_first, word_at, spaces_in, place_from}
use Rattle.script.specs.Commands as command
use Rattle.script.specs.Values.{hex_digit, octet_by, octet_of, octet_then, pairs_of, hex_of, all_digits, numeral}
use Rattle.script.specs.Values.{decimal, is_negative, digits_of, pattern_of, ranged, number_by, from_one, heard_means}
use Rattle.script.specs.Values.{value_of}
use Rattle.script.specs.Script.{command_of, kinds_of, with_value, with_octets, with_hex, with_word}
use Rattle.script.specs.Script.{words_by, is_unanswered, line_asks, read_line}
use Rattle.script.specs.declared.Fault.{Fault}
use Rattle.script.specs.declared.Fault.TheVariants.{Long, Command, Words, Hex, Number, Room, Device}
use Rattle.script.specs.declared.Asked.{Asked}

-- a command, the values of the words behind it, and the octets of its HEX words
abbrev asks : ℕ → List ℕ → List ℕ → Result (Option Asked) Fault
asks c vs os =
    Ok (Some (record {
      command = c;
      values = sets (replicate 8 0) 1 vs;
      octets = sets (replicate 1000 0) 0 os;
      len = length os;
    }))

-- each command's name stands at its place
places : (command_of (spelled "frame") ∷ command_of (spelled "hear") ∷ command_of (spelled "show")
    ∷ command_of (spelled "stopped") ∷ command_of (spelled "raise") ∷ command_of (spelled "clear")
    ∷ command_of (spelled "device") ∷ command_of (spelled "scan") ∷ command_of (spelled "begin")
    ∷ command_of (spelled "probe") ∷ command_of (spelled "report") ∷ command_of (spelled "decode")
    ∷ command_of (spelled "write") ∷ command_of (spelled "decode-n") ∷ command_of (spelled "write-n")
    ∷ command_of (spelled "limit") ∷ command_of (spelled "listen") ∷ command_of (spelled "octets") ∷ [])
    ≡ map Some (command.frame ∷ command.hear ∷ command.show ∷ command.stopped ∷ command.raise ∷ command.clear
    ∷ command.device ∷ command.scan ∷ command.begin ∷ command.probe ∷ command.report ∷ command.decode ∷ command.write
    ∷ command.decode_n ∷ command.write_n ∷ command.limit ∷ command.listen ∷ command.octets ∷ [])
unfolding spelled first_of behind_first word_at place_from place_of same command_of
places = refl

-- the bench script's name for each kind of word; "ADDRESS and CONTROL are exactly two hex digits"
abbrev pub named : ℕ → String
named k =
    cond (eqb k (code "d")) "K"
    (cond (eqb k (code "x")) "HEX"
    (cond (eqb k (code "r")) "ROOM"
    (cond (eqb k (code "t")) "TILT"
    (cond (eqb k (code "a")) "ALARM"
    (cond (eqb k (code "l")) "LIMIT"
    (cond (eqb k (code "o")) "two digits" (cond (eqb k (code "h")) "heard or silent" "none")))))))

abbrev pub words_of : String → Option (List String)
words_of c = option_map (λ p. map named (kinds_of p)) (command_of (spelled c))

-- the words behind each command, as the bench script has them; of `device` "the four texts in HEX"; N is a LIMIT
pub words-of : (words_of "frame" ∷ words_of "hear" ∷ words_of "show" ∷ words_of "stopped" ∷ words_of "raise"
    ∷ words_of "clear" ∷ words_of "device" ∷ words_of "scan" ∷ words_of "begin" ∷ words_of "probe" ∷ words_of "report"
    ∷ words_of "decode" ∷ words_of "write" ∷ words_of "decode-n" ∷ words_of "write-n" ∷ words_of "limit"
    ∷ words_of "listen" ∷ words_of "octets" ∷ [])
    ≡ map Some (("K" ∷ "HEX" ∷ "ROOM" ∷ []) ∷ ("K" ∷ "HEX" ∷ "ROOM" ∷ []) ∷ ("K" ∷ [])
    ∷ ("K" ∷ "TILT" ∷ []) ∷ ("K" ∷ "ALARM" ∷ []) ∷ ("K" ∷ "ALARM" ∷ [])
    ∷ ("HEX" ∷ "HEX" ∷ "HEX" ∷ "HEX" ∷ "TILT" ∷ "TILT" ∷ "TILT" ∷ [])
    ∷ ("LIMIT" ∷ []) ∷ ("LIMIT" ∷ []) ∷ ("ROOM" ∷ []) ∷ ("heard or silent" ∷ [])
    ∷ ("HEX" ∷ "ROOM" ∷ []) ∷ ("two digits" ∷ "two digits" ∷ "HEX" ∷ "ROOM" ∷ [])
    ∷ ("LIMIT" ∷ "HEX" ∷ "ROOM" ∷ []) ∷ ("LIMIT" ∷ "two digits" ∷ "two digits" ∷ "HEX" ∷ "ROOM" ∷ [])
    ∷ ("K" ∷ []) ∷ [] ∷ ("LIMIT" ∷ "HEX" ∷ "ROOM" ∷ []) ∷ [])
unfolding spelled first_of behind_first word_at place_from place_of same command_of kinds_of
words-of = refl

-- leading zeros are read; a tilt below zero is its 16 bits, and -32,768 the last; HEX is read in capitals too; the
-- value of HEX is where its octets end
read : (read_line (spelled "raise 1 20") 1 ≡ asks command.raise (1 ∷ 20 ∷ []) [])
    × (read_line (spelled "stopped 002 -1") 2 ≡ asks command.stopped (2 ∷ 65535 ∷ []) [])
    × (read_line (spelled "stopped 1 -32768") 2 ≡ asks command.stopped (1 ∷ 32768 ∷ []) [])
    × (read_line (spelled "probe 600") 0 ≡ asks command.probe (600 ∷ []) [])
    × (read_line (spelled "report heard") 0 ≡ asks command.report (1 ∷ []) [])
    × (read_line (spelled "report silent") 0 ≡ asks command.report (0 ∷ []) [])
    × (read_line (spelled "write 01 bf - 12") 0 ≡ asks command.write (0x01 ∷ 0xbf ∷ 0 ∷ 12 ∷ []) [])
    × (read_line (spelled "write-n 260 01 bf 81 12") 0
    ≡ asks command.write_n (260 ∷ 0x01 ∷ 0xbf ∷ 1 ∷ 12 ∷ []) (0x81 ∷ []))
    × (read_line (spelled "listen") 0 ≡ asks command.listen [] [])
    × (read_line (spelled "octets 65535 7e7D 0") 0 ≡ asks command.octets (65535 ∷ 2 ∷ 0 ∷ []) (0x7e ∷ 0x7d ∷ []))
    × (read_line (spelled "hear 1 81F0 9") 1 ≡ asks command.hear (1 ∷ 2 ∷ 9 ∷ []) (0x81 ∷ 0xF0 ∷ []))
    × (read_line (spelled "device 4e 4141 - 31 -5 5 0") 0
    ≡ asks command.device (1 ∷ 3 ∷ 3 ∷ 4 ∷ 65531 ∷ 5 ∷ 0 ∷ []) (0x4e ∷ 0x41 ∷ 0x41 ∷ 0x31 ∷ []))
unfolding spelled first_of behind_first word_at spaces_in place_from place_of same hex_digit octet_by octet_of octet_then pairs_of
    hex_of all_digits numeral decimal is_negative digits_of pattern_of ranged number_by from_one heard_means value_of command_of kinds_of
    with_value with_octets with_hex with_word words_by is_unanswered line_asks read_line
read = (refl, refl, refl, refl, refl, refl, refl, refl, refl, refl, refl, refl)

-- a line that is long has that fault before every other, unless it is a comment
faults : (read_line (spelled "probe 601") 0 ≡ Err Room)
    × (read_line (spelled "probe 99999999999999999999") 0 ≡ Err Room)
    × (read_line (spelled "probe --1") 0 ≡ Err Number)
    × (read_line (spelled "hear 1 zz 9") 1 ≡ Err Hex)
    × (read_line (spelled "hear 1 123 9") 1 ≡ Err Hex)
    × (read_line (spelled "show 2") 1 ≡ Err Device)
    × (read_line (spelled "show -1") 1 ≡ Err Device)
    × (read_line (spelled "stopped 1 32768") 1 ≡ Err Number)
    × (read_line (spelled "decode-n 65536 - 9") 0 ≡ Err Number)
    × (read_line (spelled "report twice") 0 ≡ Err Words)
    × (read_line (spelled "probe  1") 0 ≡ Err Words)
    × (read_line (spelled "listen 1") 0 ≡ Err Words)
    × (read_line (spelled "Probe 1") 0 ≡ Err Command)
    × (read_line (replicate 2001 97) 0 ≡ Err Long)
    × (read_line (replicate 2001 35) 0 ≡ Ok None)
    × (read_line [] 0 ≡ Ok None)
unfolding spelled first_of behind_first word_at spaces_in place_from place_of same hex_digit octet_by octet_of octet_then pairs_of
    hex_of all_digits numeral decimal is_negative digits_of pattern_of ranged number_by from_one heard_means value_of command_of kinds_of
    with_value with_octets with_hex with_word words_by is_unanswered line_asks read_line
faults =
    (refl, refl, refl, refl, refl, refl, refl, refl, refl, refl, refl, refl, refl, refl, refl, refl)
