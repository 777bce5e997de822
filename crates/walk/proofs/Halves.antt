-- Halving a list of identities, and the beginnings next to each other. Assumes nothing.
use mathlib.Core.Path.{◌≡◌, refl, sym, ap}
use mathlib.Core.Bool.{Bool, true, false, not, true≢false, false≢true}
use mathlib.Core.Logic.{inl, inr, ⊎_elim}
use mathlib.Core.Option.{some}
use mathlib.Core.List.{List, [], ◌∷◌, ◌++◌, head-eq_of_cons-eq, tail-eq_of_cons-eq, cons≢nil}
use mathlib.Core.List.Memᴰ
use mathlib.Core.List.{Memᴰ}
use Prim.Native.Nat.{ℕ, zero, suc, ◌+◌}
use native.Mathlib.Omega.{arith}
use lib.ListN.{length, length-append}
use Rattle.identity.specs.Bits.{Bits}
use Rattle.walk.specs.Beginnings.{then, half, under, Matches, Deep}
use Rattle.walk.specs.Machine.{next, carry, zero_half}

-- the successor of each half
pub next-zero : (p : Bits) → next (then p false) ≡ some (then p true)
unfolding next carry
next-zero [] = refl
next-zero (true ∷ p) = ap (carry true) (next-zero p)
next-zero (false ∷ p) = ap (carry false) (next-zero p)

pub next_one : (p : Bits) → next (then p true) ≡ next p
unfolding next carry
next_one [] = refl
next_one (true ∷ p) = ap (carry true) (next_one p)
next_one (false ∷ p) = ap (carry false) (next_one p)

-- a half is the 0 half exactly if its last bit is 0
pub zero_half-then : (p : Bits) (b : Bool) → zero_half (then p b) ≡ not b
unfolding zero_half
zero_half-then [] true = refl
zero_half-then [] false = refl
zero_half-then (true ∷ []) true = refl
zero_half-then (true ∷ []) false = refl
zero_half-then (false ∷ []) true = refl
zero_half-then (false ∷ []) false = refl
zero_half-then (a ∷ c ∷ p) b = zero_half-then (c ∷ p) b

pub under-then : (p : Bits) (b : Bool) (ids : List Bits) → under (then p b) ids ≡ half b (under p ids)
unfolding half under
under-then [] b ids = refl
under-then (a ∷ p) b ids = under-then p b (half a ids)

-- membership of a half is membership with the bit in front
pub half_in : (b : Bool) (i : Bits) (ids : List Bits) → Memᴰ i (half b ids) → Memᴰ (b ∷ i) ids
unfolding half
half_in b i [] m = absurd (Memᴰ.not-nil m)
half_in b i ([] ∷ is) m = Memᴰ.tail (half_in b i is m)
half_in true i ((true ∷ j) ∷ is) m =
    ⊎_elim (λ e. Memᴰ.head (ap (λ (x : Bits). true ∷ x) e))
    (λ t. Memᴰ.tail (half_in true i is t)) (Memᴰ.cases_cons m)
half_in true i ((false ∷ j) ∷ is) m = Memᴰ.tail (half_in true i is m)
half_in false i ((true ∷ j) ∷ is) m = Memᴰ.tail (half_in false i is m)
half_in false i ((false ∷ j) ∷ is) m =
    ⊎_elim (λ e. Memᴰ.head (ap (λ (x : Bits). false ∷ x) e))
    (λ t. Memᴰ.tail (half_in false i is t)) (Memᴰ.cases_cons m)

pub half_out : (b : Bool) (i : Bits) (ids : List Bits) → Memᴰ (b ∷ i) ids → Memᴰ i (half b ids)
unfolding half
half_out b i [] m = absurd (Memᴰ.not-nil m)
half_out b i ([] ∷ is) m =
    elim (Memᴰ.cases_cons m) [ inl e ↦ absurd (cons≢nil e) | inr t ↦ half_out b i is t ]
half_out true i ((true ∷ j) ∷ is) m =
    ⊎_elim (λ e. Memᴰ.head (tail-eq_of_cons-eq e))
    (λ t. Memᴰ.tail (half_out true i is t)) (Memᴰ.cases_cons m)
half_out true i ((false ∷ j) ∷ is) m =
    elim (Memᴰ.cases_cons m) [ inl e ↦ absurd (true≢false (head-eq_of_cons-eq e)) | inr t ↦ half_out true i is t ]
half_out false i ((true ∷ j) ∷ is) m =
    ⊎_elim (λ e. absurd (false≢true (head-eq_of_cons-eq e)))
    (λ t. half_out false i is t) (Memᴰ.cases_cons m)
half_out false i ((false ∷ j) ∷ is) m =
    ⊎_elim (λ e. Memᴰ.head (tail-eq_of_cons-eq e))
    (λ t. Memᴰ.tail (half_out false i is t)) (Memᴰ.cases_cons m)

pub under-in : (p i : Bits) (ids : List Bits) → Memᴰ i (under p ids) → Memᴰ (p ++ i) ids
unfolding under
under-in [] i ids m = m
under-in (b ∷ p) i ids m = half_in b (p ++ i) ids (under-in p i (half b ids) m)

pub under-out : (p i : Bits) (ids : List Bits) → Memᴰ (p ++ i) ids → Memᴰ i (under p ids)
unfolding under
under-out [] i ids m = m
under-out (b ∷ p) i ids m = under-out p i (half b ids) (half_out b (p ++ i) ids m)

-- whether there is somebody: what a bus that answers as it must does
unfoldable pub anyone : List Bits → Bool
anyone [] = false
anyone (i ∷ is) = true

pub matches-anyone : (p : Bits) (ids : List Bits) → Matches p ids → anyone (under p ids) ≡ true
unfolding anyone
matches-anyone p ids (q, m) = go (under p ids) (under-out p q ids m)
  where
    go : (js : List Bits) → Memᴰ q js → anyone js ≡ true
    go [] n = absurd (Memᴰ.not-nil n)
    go (j ∷ js) n = refl

pub anyone-matches : (p : Bits) (ids : List Bits) → anyone (under p ids) ≡ true → Matches p ids
unfolding anyone
anyone-matches p ids e = go (under p ids) e (λ q m. under-in p q ids m)
  where
    go : (js : List Bits) → anyone js ≡ true → ((q : Bits) → Memᴰ q js → Memᴰ (p ++ q) ids) → Matches p ids
    go [] n f = absurd (false≢true n)
    go (j ∷ js) n f = (j, f j (Memᴰ.head refl))

pub same_truth : (a b : Bool) → (a ≡ true → b ≡ true) → (b ≡ true → a ≡ true) → a ≡ b
same_truth true b f g = sym (f refl)
same_truth false true f g = g refl
same_truth false false f g = refl

-- the halves of deep identities are deep
pub deep-half : (d : ℕ) (b : Bool) (ids : List Bits) → Deep (suc d) ids → Deep d (half b ids)
deep-half d b ids h i m = let e : suc (length i) ≡ suc d = h (b ∷ i) (half_in b i ids m) in omega arith

pub deep-under : (p : Bits) (d : ℕ) (ids : List Bits) → Deep (length p + d) ids → Deep d (under p ids)
deep-under p d ids h i m = let e = h (p ++ i) (under-in p i ids m) in omega (arith, length-append p i)

-- where somebody is below, somebody is in one of the halves
pub someone : (d : ℕ) (i : Bits) (is : List Bits) → Deep (suc d) (i ∷ is)
    → anyone (half false (i ∷ is)) ≡ false → anyone (half true (i ∷ is)) ≡ true
unfolding anyone half
someone d [] is h e = let z : zero ≡ suc d = h [] (Memᴰ.head refl) in absurd (omega arith)
someone d (true ∷ i) is h e = refl
someone d (false ∷ i) is h e = absurd (true≢false e)
