-- The frame check: "the 16-bit one of ISO/IEC 13239 (also RFC 1662): x^16 + x^12 + x^5 + 1, least significant bit
-- first, start 0xFFFF, complemented", by bitwise polynomial division.
--   reflected n es     == the polynomial with the exponents es, all below n, as n bits, the lowest exponent on top
--   bit_step r         == the register one bit on; bit_steps k r == k bits on; octet_step r o == one octet on
--   register_after r s == the register after the octets s, from r on
--   check_of s         == the check of the octets s
--   with_check s       == s and its two check octets, low one first
--   residue            == the register after any frame with its check
--   Remainders k t     == t is the table that works k bits at once
-- Assumes nothing.
use Rattle.std.specs.Prelude.{◌≡◌, List, [], ◌∷◌, ◌++◌, ℕ, zero, suc, ◌+◌, ◌-◌, ◌*◌, ◌/◌, ◌%◌, ◌^◌, ◌<◌, length, get_or}
use Rattle.std.specs.Int.Bits.{bit_xor}
use Rattle.octets.specs.Octets.{low_of, high_of}

-- "least significant bit first": of the terms below x^n the one with x^e stands at bit n - 1 - e
abbrev pub reflected : ℕ → List ℕ → ℕ
reflected n [] = 0
reflected n (e ∷ es) = 2 ^ (n - 1 - e) + reflected n es

-- "x^16 + x^12 + x^5 + 1": what an x^16 that falls out leaves is x^12 + x^5 + 1
abbrev pub polynomial : ℕ
polynomial = reflected 16 (12 ∷ 5 ∷ 0 ∷ [])

-- one bit: the register moves down by a bit, and where a one falls out the polynomial is exclusive-ored in
unfoldable pub bit_step : ℕ → ℕ
bit_step r = bit_xor (r / 2) (r % 2 * polynomial)

unfoldable pub bit_steps : ℕ → ℕ → ℕ
bit_steps zero r = r
bit_steps (suc k) r = bit_steps k (bit_step r)

unfoldable pub octet_step : ℕ → ℕ → ℕ
octet_step r o = bit_steps 8 (bit_xor r o)

unfoldable pub register_after : ℕ → List ℕ → ℕ
register_after r [] = r
register_after r (o ∷ os) = register_after (octet_step r o) os

-- "start 0xFFFF, complemented"
unfoldable pub check_of : List ℕ → ℕ
check_of s = bit_xor (register_after 0xFFFF s) 0xFFFF

-- "two check octets, low one first"
unfoldable pub with_check : List ℕ → List ℕ
with_check s = s ++ low_of (check_of s) ∷ high_of (check_of s) ∷ []

-- RFC 1662's good-frame residue
abbrev pub residue : ℕ
residue = 0xF0B8

-- "the table of .. remainders, each entry the remainder of its index by bitwise division", over the number of bits
unfoldable pub Remainders : ℕ → List ℕ → Type 0
Remainders k t = (length t ≡ 2 ^ k) × ((x : ℕ) → x < 2 ^ k → get_or t x 0 ≡ bit_steps k x)
