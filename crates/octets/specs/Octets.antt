-- Lists of octets: the words that every layer above uses of them.
--   Octets s         == each number of s is an octet
--   holds x s        == x stands somewhere in s; OneOf x s == the same, in the words of the laws on such tests
--   place_of x s     == the place of the first x in s, counted from 0; the length of s where there is none
--   part_of n m s    == the octets of s from the place n up to the place m, as far as there are any
--   last_of d s      == the last of s, or d where s is empty
--   low_of n, high_of n == the two octets of a number of 16 bits; pair_of l h == the number they stand for
--   b at_start_of o  == the octets b stand at the start of the lent output o, the rest unchanged
-- Stored from an index on, as far as the list goes: `set` and `sets` of the library. Assumes nothing.
use Rattle.std.specs.Prelude.{◌≡◌, Bool, true, false, cond, List, [], ◌∷◌, ◌++◌, ◌⊎◌, ℕ, suc, ◌+◌, ◌*◌, ◌/◌, ◌%◌, ◌<◌, eqb, length, take, drop}

infixl 45 ◌at_start_of◌
abbrev pub Octets : List ℕ → Type 0
Octets [] = Unit {0}
Octets (x ∷ xs) = (x < 256) × Octets xs

unfoldable pub holds : ℕ → List ℕ → Bool
holds x [] = false
holds x (y ∷ ys) = cond (eqb y x) true (holds x ys)

abbrev pub OneOf : ℕ → List ℕ → Type 0
OneOf x [] = ⊥
OneOf x (y ∷ ys) = (x ≡ y) ⊎ OneOf x ys

unfoldable pub place_of : ℕ → List ℕ → ℕ
place_of x [] = 0
place_of x (y ∷ ys) = cond (eqb y x) 0 (suc (place_of x ys))

abbrev pub part_of : ℕ → ℕ → List ℕ → List ℕ
part_of from end s = drop from (take end s)

unfoldable pub last_of : ℕ → List ℕ → ℕ
last_of d [] = d
last_of d (x ∷ xs) = last_of x xs

-- 01: "two octets, low first"
abbrev pub low_of : ℕ → ℕ
low_of n = n % 256

abbrev pub high_of : ℕ → ℕ
high_of n = n / 256 % 256

abbrev pub pair_of : ℕ → ℕ → ℕ
pair_of low high = low + high * 256

-- 01: "stand at the start of the lent output, the rest unchanged"
unfoldable pub ◌at_start_of◌ : List ℕ → List ℕ → List ℕ
b at_start_of o = b ++ drop (length b) o
