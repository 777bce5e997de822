-- Messages that pass the checks of their form, octet by octet. Assumes nothing.
use mathlib.Core.Path.{◌≡◌, sym}
use mathlib.Core.Bool.{false}
use mathlib.Core.List.{List, [], ◌∷◌}
use Prim.Native.Nat.{ℕ, ◌≤◌}
use native.Mathlib.Omega.{arith}
use borrow.Author.Tests.{eqb-false, ne_eqb}
use lib.Dec.{eqb}
use lib.ListN.{length, get_or}
use Rattle.message.specs.Messages.{code_of, declared_of, data_of, table, in_table}

-- a code of none of the rows is not in the table
pub unlisted : (c : ℕ) → eqb c 0x04 ≡ false → eqb c 0x05 ≡ false → eqb c 0x06 ≡ false → eqb c 0x12 ≡ false
    → eqb c 0x33 ≡ false → eqb c 0x34 ≡ false → in_table table c ≡ false
unfolding in_table
unlisted c e₁ e₂ e₃ e₄ e₅ e₆ =
    rw (apart 0x04 e₁, apart 0x05 e₂, apart 0x06 e₃, apart 0x12 e₄, apart 0x33 e₅, apart 0x34 e₆)
  where
    apart : (k : ℕ) → eqb c k ≡ false → eqb k c ≡ false
    apart k e = ne_eqb k c (λ h. eqb-false c k e (sym h))

-- a message with no data is its code and two zeros
pub shape-none : (m : List ℕ) (c : ℕ) → 3 ≤ length m → code_of m ≡ c → declared_of m ≡ 0 → length (data_of m) ≡ 0
    → m ≡ c ∷ 0 ∷ 0 ∷ []
shape-none [] c l e s d = let none : ⊥ = omega arith in absurd none
shape-none (x ∷ []) c l e s d = let none : ⊥ = omega arith in absurd none
shape-none (x ∷ y ∷ []) c l e s d = let none : ⊥ = omega arith in absurd none
shape-none (x ∷ y ∷ z ∷ []) c l e s d =
    let a : y ≡ 0 = omega (arith, s) in
    let b : z ≡ 0 = omega (arith, s) in
    rw (e, a, b)
shape-none (x ∷ y ∷ z ∷ u ∷ v) c l e s d = let none : ⊥ = omega (arith, d) in absurd none

-- a message with two octets of data is its code, 2, 0 and they
pub shape_two : (m : List ℕ) (c : ℕ) → 3 ≤ length m → code_of m ≡ c → declared_of m ≡ 2 → length (data_of m) ≡ 2
    → m ≡ c ∷ 2 ∷ 0 ∷ get_or m 3 0 ∷ get_or m 4 0 ∷ []
shape_two [] c l e s d = let none : ⊥ = omega arith in absurd none
shape_two (x ∷ []) c l e s d = let none : ⊥ = omega arith in absurd none
shape_two (x ∷ y ∷ []) c l e s d = let none : ⊥ = omega arith in absurd none
shape_two (x ∷ y ∷ z ∷ []) c l e s d = let none : ⊥ = omega (arith, d) in absurd none
shape_two (x ∷ y ∷ z ∷ u ∷ []) c l e s d = let none : ⊥ = omega (arith, d) in absurd none
shape_two (x ∷ y ∷ z ∷ u ∷ v ∷ []) c l e s d =
    let a : y ≡ 2 = omega (arith, s) in
    let b : z ≡ 0 = omega (arith, s) in
    rw (e, a, b)
shape_two (x ∷ y ∷ z ∷ u ∷ v ∷ w ∷ ws) c l e s d = let none : ⊥ = omega (arith, d) in absurd none
