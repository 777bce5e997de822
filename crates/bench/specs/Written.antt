-- Octets in HEX, as they are written. docs/BENCH.md: "octets in pairs of hex digits; upper case is read, lower case is
-- written. `-` is no octets."
--   digit_of d     == the digit of the value d, of its last 16
--   hexed s        == two digits for each octet of s
--   hex_row mark s == the row that is written from: a mark and the digits, a `-` where there are none
-- Assumes nothing.
use Rattle.std.specs.Prelude.{cond, List, [], ◌∷◌, ℕ, ◌+◌, ◌/◌, ◌%◌, ltb, take, set, replicate}
use Prim.Native.Char.{code}
use Rattle.std.proofs.lemmas.List.Edits.{sets}

-- `0` is 48, and `a`, of 10, is 97
unfoldable pub digit_of : ℕ → ℕ
digit_of d = cond (ltb (d % 16) 10) (48 + d % 16) (87 + d % 16)

unfoldable pub hexed : List ℕ → List ℕ
hexed [] = []
hexed (x ∷ s) = digit_of (x / 16) ∷ digit_of x ∷ hexed s

-- as many as the longest lent output has
unfoldable pub hex_row : ℕ → List ℕ → List ℕ
hex_row mark s = sets (set (replicate 1201 mark) 1 (code "-")) 1 (hexed (take 600 s))
