-- Beginnings, and the identities below them. `ids` are identities, all of one number of bits.
--   then p b      == p with the bit b behind it: its 0 half or its 1 half
--   half b ids    == the identities that begin with the bit b, without it
--   under p ids   == the identities that begin with p, without it
--   Matches p ids == an identity begins with p
--   Deep d ids    == each identity has d bits
-- A scan that starts from a known beginning s is a scan of `under s ids`, at the depth that is left. Assumes nothing.
use Rattle.std.specs.Prelude.{◌≡◌, Bool, true, false, ℕ, length}
use mathlib.Core.List.{List, [], ◌∷◌, ◌++◌, Memᴰ}
use Rattle.identity.specs.Bits.{Bits}

-- 01: "its 0 half, then, that done, its 1 half"
abbrev pub then : Bits → Bool → Bits
then p b = p ++ (b ∷ [])

unfoldable pub half : Bool → List Bits → List Bits
half b [] = []
half b ([] ∷ is) = half b is
half true ((true ∷ i) ∷ is) = i ∷ half true is
half true ((false ∷ i) ∷ is) = half true is
half false ((true ∷ i) ∷ is) = half false is
half false ((false ∷ i) ∷ is) = i ∷ half false is

unfoldable pub under : Bits → List Bits → List Bits
under [] ids = ids
under (b ∷ p) ids = under p (half b ids)

abbrev pub Matches : Bits → List Bits → Type 0
Matches p ids = (q : Bits) × Memᴰ (p ++ q) ids

abbrev pub Deep : ℕ → List Bits → Type 0
Deep d ids = (i : Bits) → Memᴰ i ids → length i ≡ d
