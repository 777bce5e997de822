-- Members of a list and their places; lists without repeats, named anew. Assumes nothing.
use mathlib.Core.Path.{◌≡◌, refl, ap, ap₂}
use mathlib.Core.Logic.{◌⊎◌, inl, inr}
use mathlib.Core.List.Memᴰ
use mathlib.Core.List.{List, [], ◌∷◌, map, Memᴰ}
use Prim.Native.Nat.{ℕ, zero, suc, ◌<◌}
use native.Mathlib.Nat.{not-suc-le-zero, le_of_suc-le-suc}
use native.Mathlib.Omega.{arith}
use lib.ListN.{length, get_or}
use Rattle.identity.specs.Order.{Different}
use Rattle.identity.proofs.Lists.{map-in, map-out}

module _ {A : Type 0} (z : A) where
  pub place_of : (xs : List A) (y : A) → Memᴰ y xs → (k : ℕ) × (k < length xs) × (y ≡ get_or xs k z)
  place_of [] y m = absurd (Memᴰ.not-nil m)
  place_of (x ∷ xs) y m = go (place_of xs y) (Memᴰ.cases_cons m)
    where
      go : (Memᴰ y xs → (k : ℕ) × (k < length xs) × (y ≡ get_or xs k z)) → (y ≡ x) ⊎ Memᴰ y xs
          → (k : ℕ) × (k < length (x ∷ xs)) × (y ≡ get_or (x ∷ xs) k z)
      go more (inl e) = (0, omega arith, e)
      go more (inr t) = let (k, h, e) = more t in (suc k, omega arith, e)

  pub place_in : (xs : List A) (k : ℕ) → k < length xs → Memᴰ (get_or xs k z) xs
  place_in [] k h = absurd (not-suc-le-zero h)
  place_in (x ∷ xs) zero h = Memᴰ.head refl
  place_in (x ∷ xs) (suc k) h = Memᴰ.tail (place_in xs k (le_of_suc-le-suc h))

module _ {A B C : Type 0} (f : A → B) (g : A → C) where
  -- where the names f do not repeat, names g that tell apart what f tells apart do not
  pub different-by : (xs : List A) → ((x y : A) → Memᴰ x xs → Memᴰ y xs → g x ≡ g y → f x ≡ f y)
      → Different (map f xs) → Different (map g xs)
  different-by [] tells n = tt
  different-by (x ∷ xs) tells n = (
    λ m.
        let (y, k, e) = map-in g xs (g x) m in
        n.0 (Memᴰ.cast (tells x y (Memᴰ.head refl) (Memᴰ.tail k) e) (map-out f xs y k)),
    different-by xs (λ y z k m. tells y z (Memᴰ.tail k) (Memᴰ.tail m)) n.1,
  )

pub map-twice : {A B C : Type 0} (f : B → C) (g : A → B) (xs : List A) → map f (map g xs) ≡ map (λ x. f (g x)) xs
map-twice f g [] = refl
map-twice {C = C} f g (x ∷ xs) = ap (λ (l : List C). f (g x) ∷ l) (map-twice f g xs)

pub map_same : {A B : Type 0} (f g : A → B) (xs : List A) → ((x : A) → Memᴰ x xs → f x ≡ g x) → map f xs ≡ map g xs
map_same f g [] same = refl
map_same {B = B} f g (x ∷ xs) same =
    ap₂ (λ (y : B) (l : List B). y ∷ l) (same x (Memᴰ.head refl))
    (map_same f g xs (λ y m. same y (Memᴰ.tail m)))
