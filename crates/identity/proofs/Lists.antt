-- Lists named anew, element by element: members, repeats, order, and those that pass a test. Assumes nothing.
use mathlib.Core.Path.{◌≡◌, refl, ap, ◌∙◌}
use mathlib.Core.Bool.{Bool, true, false, cond}
use mathlib.Core.List.Memᴰ
use mathlib.Core.List.{List, [], ◌∷◌, map}
use mathlib.Core.List.{Memᴰ}
use mathlib.Core.Logic.{◌⊎◌, inl, inr}
use Prim.Native.Nat.{ℕ, zero, suc, ◌<◌}
use native.Mathlib.Nat.{le_of_suc-le-suc, not-suc-le-zero}
use lib.ListN.{length, get_or}
use Rattle.identity.specs.Order.{those, Ascending, Different}

module _ {A B : Type 0} (f : A → B) where
  pub map-in : (xs : List A) (y : B) → Memᴰ y (map f xs) → (x : A) × Memᴰ x xs × (y ≡ f x)
  map-in [] y m = absurd (Memᴰ.not-nil m)
  map-in (x ∷ xs) y m = go (map-in xs y) (Memᴰ.cases_cons m)
    where
      go : (Memᴰ y (map f xs) → (z : A) × Memᴰ z xs × (y ≡ f z)) → (y ≡ f x) ⊎ Memᴰ y (map f xs)
          → (z : A) × Memᴰ z (x ∷ xs) × (y ≡ f z)
      go more (inl e) = (x, Memᴰ.head refl, e)
      go more (inr t) = let (z, n, e) = more t in (z, Memᴰ.tail n, e)

  pub map-out : (xs : List A) (x : A) → Memᴰ x xs → Memᴰ (f x) (map f xs)
  map-out [] x m = absurd (Memᴰ.not-nil m)
  map-out (y ∷ xs) x m =
      elim (Memᴰ.cases_cons m) [ inl e ↦ Memᴰ.head (ap f e) | inr t ↦ Memᴰ.tail (map-out xs x t) ]

  -- names that differ make no repeats
  pub map-different : (xs : List A) → ((x y : A) → Memᴰ x xs → Memᴰ y xs → f x ≡ f y → x ≡ y)
      → Different xs → Different (map f xs)
  map-different [] apart n = tt
  map-different (x ∷ xs) apart n = (
    λ m.
        let (z, k, e) = map-in xs (f x) m in
        n.0 (Memᴰ.cast (apart x z (Memᴰ.head refl) (Memᴰ.tail k) e) k),
    map-different xs (λ y z a b. apart y z (Memᴰ.tail a) (Memᴰ.tail b)) n.1,
  )

  -- names in the same order ascend alike
  pub map-ascending : (u : A → A → Bool) (v : B → B → Bool) (xs : List A)
      → ((x y : A) → Memᴰ x xs → Memᴰ y xs → v (f x) (f y) ≡ u x y) → Ascending u xs → Ascending v (map f xs)
  map-ascending u v [] same a = tt
  map-ascending u v (x ∷ xs) same a = (
    λ y m.
        let (z, k, e) = map-in xs y m in
        ap (v (f x)) e ∙ same x z (Memᴰ.head refl) (Memᴰ.tail k) ∙ a.0 z k,
    map-ascending u v xs (λ y z m n. same y z (Memᴰ.tail m) (Memᴰ.tail n)) a.1,
  )

  pub those-map : (t : A → Bool) (u : B → Bool) (xs : List A) → ((x : A) → Memᴰ x xs → u (f x) ≡ t x)
      → map f (those t xs) ≡ those u (map f xs)
  unfolding those
  those-map t u [] same = refl
  those-map t u (x ∷ xs) same =
      rw (same x (Memᴰ.head refl))
      (by-test (t x)
      ∙ ap (λ (l : List B). cond (t x) (f x ∷ l) l) (those-map t u xs (λ y m. same y (Memᴰ.tail m))))
    where
      by-test : (b : Bool)
          → map f (cond b (x ∷ those t xs) (those t xs)) ≡ cond b (f x ∷ map f (those t xs)) (map f (those t xs))
      by-test true = refl
      by-test false = refl

  -- inside the list the default does not count
  pub get_d_map : (xs : List A) (n : ℕ) (d : A) (e : B) → n < length xs → get_or (map f xs) n e ≡ f (get_or xs n d)
  get_d_map [] n d e h = absurd (not-suc-le-zero h)
  get_d_map (x ∷ xs) zero d e h = refl
  get_d_map (x ∷ xs) (suc n) d e h = get_d_map xs n d e (le_of_suc-le-suc h)
