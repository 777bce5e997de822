-- Octets on the line: 01, "Octets on the line".
--   flag, escape, toggle == 0x7E, 0x7D, and the 0x20 that an escaped octet is changed by
--   broken s     == refusal 4 looks before anything is decoded: 0x7E inside, or 0x7D as the last octet
--   plain s      == the decoded octets: escapes taken out
--   on_line d    == the octets d with their escapes
--   between d    == flag, d on the line, flag
--   inside l     == what lies between the two flags of a line
--   Needed s     == no needless escape: every 0x7D is followed by 5D or 5E
-- Assumes nothing.
use Rattle.std.specs.Prelude.{◌≡◌, Bool, true, false, cond, ◌||◌, List, [], ◌∷◌, ◌++◌, ◌⊎◌, ℕ, ◌-◌, eqb, length, take, drop}
use Rattle.std.specs.Int.Bits.{bit_xor}
use Rattle.octets.specs.Octets.{holds, last_of}

abbrev pub flag : ℕ
flag = 0x7E

abbrev pub escape : ℕ
escape = 0x7D

abbrev pub toggle : ℕ
toggle = 0x20

-- "0x7E inside, or 0x7D as the last octet"
unfoldable pub broken : List ℕ → Bool
broken s = holds flag s || eqb (last_of 0 s) escape

-- "0x7D is removed and the next octet has 0x20 exclusive-ored in, whatever it was"; the Bool says whether the octet
-- before was a 0x7D so removed
unfoldable pub plain_after : Bool → List ℕ → List ℕ
plain_after removed [] = []
plain_after true (x ∷ xs) = bit_xor x toggle ∷ plain_after false xs
plain_after false (x ∷ xs) = cond (eqb x escape) (plain_after true xs) (x ∷ plain_after false xs)

abbrev pub plain : List ℕ → List ℕ
plain s = plain_after false s

-- "escaping exactly 0x7E and 0x7D"
unfoldable pub special : ℕ → Bool
special x = eqb x flag || eqb x escape

unfoldable pub escaped : ℕ → List ℕ
escaped x = cond (special x) (escape ∷ bit_xor x toggle ∷ []) (x ∷ [])

unfoldable pub on_line : List ℕ → List ℕ
on_line [] = []
on_line (x ∷ xs) = escaped x ++ on_line xs

-- "flag, frame, flag"
unfoldable pub between : List ℕ → List ℕ
between d = flag ∷ (on_line d ++ flag ∷ [])

unfoldable pub inside : List ℕ → List ℕ
inside l = take (length l - 2) (drop 1 l)

-- the octet that follows a 0x7D is one that an escaped 0x7D or 0x7E has
abbrev pub NeededNext : List ℕ → Type 0
NeededNext [] = Unit {0}
NeededNext (y ∷ ys) = (y ≡ 0x5D) ⊎ (y ≡ 0x5E)

unfoldable pub Needed : List ℕ → Type 0
Needed [] = Unit {0}
Needed (x ∷ xs) = (x ≡ escape → NeededNext xs) × Needed xs
