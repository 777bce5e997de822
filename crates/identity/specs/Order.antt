-- Lists of beginnings and of identities: their order, without repeats, and those below a beginning.
--   below l p      == the bits l come before the beginning p filled with zeros
--   lower s t      == the octets s come before the octets t
--   those t xs     == the elements of xs that pass the test t, in their order
--   Ascending f xs == each element comes before all that follow, in the order f
--   Different xs   == no element comes twice
-- Assumes nothing.
use Rattle.std.specs.Prelude.{◌≡◌, Bool, true, false, cond, ℕ, ltb, eqb}
use mathlib.Core.List.{List, [], ◌∷◌, Memᴰ}
use Rattle.identity.specs.Bits.{Bits}

-- 01: "the present identities below that, filled with zeros"
unfoldable pub below : Bits → Bits → Bool
below [] p = false
below (a ∷ l) [] = false
below (true ∷ l) (true ∷ p) = below l p
below (true ∷ l) (false ∷ p) = false
below (false ∷ l) (true ∷ p) = true
below (false ∷ l) (false ∷ p) = below l p

unfoldable pub lower : List ℕ → List ℕ → Bool
lower [] t = false
lower (x ∷ s) [] = false
lower (x ∷ s) (y ∷ t) = cond (eqb x y) (lower s t) (ltb x y)

module _ {A : Type 0} where
  unfoldable pub those : (A → Bool) → List A → List A
  those t [] = []
  those t (x ∷ xs) = cond (t x) (x ∷ those t xs) (those t xs)

  abbrev pub Ascending : (A → A → Bool) → List A → Type 0
  Ascending f [] = Unit {0}
  Ascending f (x ∷ xs) = ((y : A) → Memᴰ y xs → f x y ≡ true) × Ascending f xs

  abbrev pub Different : List A → Type 0
  Different [] = Unit {0}
  Different (x ∷ xs) = (Memᴰ x xs → ⊥) × Different xs
