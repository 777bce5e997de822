-- Who the device is, and what a scan compares with it.
--   vendor, least_serial, most_serial == how many octets the vendor and the serial number have
--   width, depth       == the octets of a padded identity (19), and its bits (152)
--   allowed_identity i == the octets i are an identity; AnIdentity i == the same, in the words of 01
--   blank, last_printable == 0x20 and 0x7E, the lowest and the highest that an octet of an identity may be
--   padded i           == i with 0x20 behind it to 19 octets; unpadded x == x without the blanks at its end
--   octets_of p        == the beginning p as 19 octets, zeros behind it; mask_of p == ones over it, zeros behind
--   answers_scan i m v == the identity i answers a scan whose mask is m and whose value is v
-- A beginning p is 19 octets and a number of bits: `octets_of p` and `length p`. Assumes nothing.
use Rattle.std.specs.Prelude.{Bool, true, false, cond, not, ◌&&◌, List, [], ◌∷◌, ◌++◌, ◌≡◌, ℕ, ◌+◌, ◌*◌, ◌-◌, ◌<◌, ◌≤◌, leb, eqb, length, get_or, replicate}
use Rattle.octets.specs.Octets.{last_of}
use Rattle.identity.specs.Bits.{Bits, packed, ones, masked}

-- 01: "2 vendor octets and 1 to 17 serial octets"
abbrev pub vendor : ℕ
vendor = 2

abbrev pub least_serial : ℕ
least_serial = 1

abbrev pub most_serial : ℕ
most_serial = 17

-- 01: "padded with 0x20 to 19", and "identities are 152 bits"
abbrev pub width : ℕ
width = vendor + most_serial

abbrev pub depth : ℕ
depth = 8 * width

-- 01: "all 0x20 to 0x7E"
abbrev pub blank : ℕ
blank = 0x20

abbrev pub last_printable : ℕ
last_printable = 0x7E

unfoldable pub printable : ℕ → Bool
printable x = leb blank x && leb x last_printable

unfoldable pub all_printable : List ℕ → Bool
all_printable [] = true
all_printable (x ∷ xs) = printable x && all_printable xs

-- 01: "the last not 0x20"
unfoldable pub allowed_identity : List ℕ → Bool
allowed_identity i =
    leb (vendor + least_serial) (length i)
    && (leb (length i) width && (all_printable i && not (eqb (last_of blank i) blank)))

-- 01: "2 vendor octets and 1 to 17 serial octets, all 0x20 to 0x7E, the last not 0x20"
pub record AnIdentity (i : List ℕ) : Type 0 where
  pub maker : List ℕ
  pub serial : List ℕ
  pub parts : i ≡ maker ++ serial
  pub maker-two : length maker ≡ 2
  pub serial-least : 1 ≤ length serial
  pub serial-most : length serial ≤ 17
  pub all : (j : ℕ) → j < length i → (0x20 ≤ get_or i j 0) × (get_or i j 0 ≤ 0x7E)
  pub end : get_or i (length i - 1) 0 ≡ 0x20 → ⊥

unfoldable pub padded : List ℕ → List ℕ
padded i = i ++ replicate (width - length i) blank

-- 01: "the last not 0x20", so that the blanks at the end are padding
unfoldable pub trimmed_to : ℕ → List ℕ → List ℕ
trimmed_to x [] = cond (eqb x blank) [] (x ∷ [])
trimmed_to x (y ∷ ys) = x ∷ y ∷ ys

unfoldable pub unpadded : List ℕ → List ℕ
unpadded [] = []
unpadded (x ∷ xs) = trimmed_to x (unpadded xs)

-- 01: "a beginning in 1, ones over it in 3, zeros elsewhere"
abbrev pub octets_of : Bits → List ℕ
octets_of p = packed width p

abbrev pub mask_of : Bits → List ℕ
mask_of p = packed width (ones (length p))

-- 01: "its left-most octets are masked and must equal the value of 1, which isn't masked"
unfoldable pub same : List ℕ → List ℕ → Bool
same [] [] = true
same [] (y ∷ ys) = false
same (x ∷ xs) [] = false
same (x ∷ xs) (y ∷ ys) = eqb x y && same xs ys

unfoldable pub answers_scan : List ℕ → List ℕ → List ℕ → Bool
answers_scan i m v = same (masked (padded i) m) v
