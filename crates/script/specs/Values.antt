-- What a word stands for, by its kind. The bench script's second paragraph and its fine print.
--   hex_digit c       == the value of the digit c, where it is one
--   octet_by h l      == the octet of two digits, octet_from h l == of their values; octet_of w == of a word of exactly two
--   hex_of w          == the octets of a word HEX, where it is one
--   numeral s         == s is one or more decimal digits; decimal n s == the number n with the digits s behind it
--   decimal_of s      == the code's: that number, a million for each above it
--   number_by b a f w == the number w of -b to a, as its 16 bits; the fault f where it is outside
--   value_of k d w    == what the word w of the kind k stands for, on a bench with d devices
-- The kinds by their letters: o an octet, r ROOM, d a device K, t a tilt, a an alarm, l a limit, h heard or silent; HEX
-- has none of these values. Assumes nothing.
use Rattle.std.specs.Prelude.{Bool, true, cond, not, ◌&&◌, List, [], ◌∷◌, Option, Some, None, Result, Ok, Err, ℕ, ◌+◌, ◌-◌, ◌*◌, ◌%◌, min, leb, eqb, length, get_or, drop}
use Prim.Native.Char.{code}
use Rattle.identity.specs.Identity.{same}
use Rattle.script.specs.Words.{spelled, place_from}
use Rattle.script.specs.declared.Fault.{Fault}
use Rattle.script.specs.declared.Fault.TheVariants.{Words, Hex, Number, Room, Device}

-- ---- HEX

abbrev pub is_from_to : ℕ → ℕ → ℕ → Bool
is_from_to least most n = leb least n && leb n most

-- "digits `0-9a-f` (upper case is read, lower case is written)"
unfoldable pub hex_digit : ℕ → Option ℕ
hex_digit c =
    cond (is_from_to (code "0") (code "9") c) (Some (c - code "0"))
    (cond (is_from_to (code "a") (code "f") c) (Some (c - code "a" + 10))
    (cond (is_from_to (code "A") (code "F") c) (Some (c - code "A" + 10)) None))

abbrev pub octet_from : Option ℕ → Option ℕ → Result ℕ Fault
octet_from (Some h) (Some l) = Ok (16 * h + l)
octet_from (Some h) None = Err Hex
octet_from None l = Err Hex

unfoldable pub octet_by : ℕ → ℕ → Result ℕ Fault
octet_by h l = octet_from (hex_digit h) (hex_digit l)

-- "ADDRESS and CONTROL are exactly two hex digits, else `error hex`."
unfoldable pub octet_of : List ℕ → Result ℕ Fault
octet_of w = cond (eqb (length w) 2) (octet_by (get_or w 0 0) (get_or w 1 0)) (Err Hex)

unfoldable pub octet_then : Result ℕ Fault → Option (List ℕ) → Option (List ℕ)
octet_then (Ok o) (Some os) = Some (o ∷ os)
octet_then (Ok o) None = None
octet_then (Err f) os = None

-- "HEX with an odd number of digits or another character is `error hex`."
unfoldable pub pairs_of : List ℕ → Option (List ℕ)
pairs_of [] = Some []
pairs_of (h ∷ []) = None
pairs_of (h ∷ l ∷ s) = octet_then (octet_by h l) (pairs_of s)

-- "an even number of digits .. or `-` for no octets"; "an empty word is bad as a number and as HEX"
unfoldable pub hex_of : List ℕ → Option (List ℕ)
hex_of w = cond (same w (spelled "-")) (Some []) (cond (eqb (length w) 0) None (pairs_of w))

-- ---- numbers

unfoldable pub all_digits : List ℕ → Bool
all_digits [] = true
all_digits (c ∷ s) = is_from_to (code "0") (code "9") c && all_digits s

-- "A number is one or more digits, leading zeros read, with at most one `-` in front"
unfoldable pub numeral : List ℕ → Bool
numeral s = not (eqb (length s) 0) && all_digits s

unfoldable pub decimal : ℕ → List ℕ → ℕ
decimal n [] = n
decimal n (c ∷ s) = decimal (10 * n + (c - code "0")) s

unfoldable pub is_negative : List ℕ → Bool
is_negative w = eqb (get_or w 0 0) (code "-")

unfoldable pub digits_of : List ℕ → List ℕ
digits_of w = cond (is_negative w) (drop 1 w) w

-- the code's: a number up to a million, which stands for each above it
unfoldable pub decimal_of : List ℕ → Result ℕ Fault
decimal_of s = cond (numeral s) (Ok (min (decimal 0 s) 1000000)) (Err Number)

-- the 16 bits of a number, or of it below zero
unfoldable pub pattern_of : Bool → ℕ → ℕ
pattern_of negative n = cond negative ((65536 - n) % 65536) n

unfoldable pub ranged : Bool → ℕ → Fault → ℕ → Result ℕ Fault
ranged negative most f n = cond (leb n most) (Ok (pattern_of negative n)) (Err f)

unfoldable pub number_by : ℕ → ℕ → Fault → List ℕ → Result ℕ Fault
number_by below above f w =
    cond (numeral (digits_of w))
    (ranged (is_negative w) (cond (is_negative w) below above) f (decimal 0 (digits_of w)))
    (Err Number)

-- "A K that is a number but no device of the bench, negative ones too, is `error device`"; they are counted from 1
unfoldable pub from_one : Result ℕ Fault → Result ℕ Fault
from_one (Err f) = Err f
from_one (Ok n) = cond (eqb n 0) (Err Device) (Ok n)

-- "`report` with another word is `error words`"; 1 for heard
unfoldable pub heard_means : Option ℕ → Result ℕ Fault
heard_means (Some place) = Ok place
heard_means None = Err Words

-- "a ROOM outside 0 to 600 is `error room`; a tilt outside 16 bits signed, an alarm outside 0 to 255 and a limit
-- outside 0 to 65,535 are `error number`"
unfoldable pub value_of : ℕ → ℕ → List ℕ → Result ℕ Fault
value_of k d w =
    cond (eqb k (code "r")) (number_by 0 600 Room w)
    (cond (eqb k (code "d")) (from_one (number_by 0 d Device w))
    (cond (eqb k (code "t")) (number_by 32768 32767 Number w)
    (cond (eqb k (code "a")) (number_by 0 255 Number w)
    (cond (eqb k (code "l")) (number_by 0 65535 Number w)
    (cond (eqb k (code "o")) (octet_of w) (heard_means (place_from 0 2 (spelled "silent heard") w)))))))
