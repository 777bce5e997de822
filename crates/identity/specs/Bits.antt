-- Bits, and the octets that they make, the most significant bit of each octet first.
--   Bits               == a list of bits: a beginning, or a whole identity
--   BeginningOf p l    == the bits l begin with p
--   digit b            == a bit as a number
--   word p n           == the number whose n binary digits are the first n bits of p, zeros where p has ended
--   packed n p         == n octets: the first 8n bits of p, zeros where p has ended
--   unpacked n x       == the n binary digits of the number x, as bits
--   bits_of s          == the bits of the octets s
--   ones n             == n ones
--   masked s m         == the octets s under the mask octets m, as many as there are of the shorter
-- Assumes nothing.
use Rattle.std.specs.Prelude.{◌≡◌, Bool, true, false, List, [], ◌∷◌, ◌++◌, ℕ, zero, suc, ◌+◌, ◌*◌, ◌/◌, ◌%◌, eqb, get_or, drop, replicate}
use Rattle.std.specs.Int.Bits.{bit_and}

abbrev pub Bits : Type 0
Bits = List Bool

abbrev pub BeginningOf : Bits → Bits → Type 0
BeginningOf p l = (q : Bits) × (p ++ q ≡ l)

abbrev pub digit : Bool → ℕ
digit true = 1
digit false = 0

unfoldable pub word : Bits → ℕ → ℕ
word p zero = 0
word p (suc n) = 2 * word p n + digit (get_or p n false)

-- 01: "most significant bit of each octet first"
unfoldable pub packed : ℕ → Bits → List ℕ
packed zero p = []
packed (suc n) p = word p 8 ∷ packed n (drop 8 p)

unfoldable pub unpacked : ℕ → ℕ → Bits
unpacked zero x = []
unpacked (suc n) x = unpacked n (x / 2) ++ (eqb (x % 2) 1 ∷ [])

unfoldable pub bits_of : List ℕ → Bits
bits_of [] = []
bits_of (x ∷ xs) = unpacked 8 x ++ bits_of xs

abbrev pub ones : ℕ → Bits
ones n = replicate n true

-- 01: "its left-most octets are masked"
unfoldable pub masked : List ℕ → List ℕ → List ℕ
masked [] ms = []
masked (x ∷ xs) [] = []
masked (x ∷ xs) (m ∷ ms) = bit_and x m ∷ masked xs ms
