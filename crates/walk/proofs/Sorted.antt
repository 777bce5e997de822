-- The probes of a bus come in ascending order: what was heard before a probe is what is below it. Assumes nothing.
use mathlib.Core.Path.{◌≡◌, refl, sym, ap, ap₂, ◌∙◌}
use mathlib.Core.Bool.{true, false, true≢false}
use mathlib.Core.List.Memᴰ
use mathlib.Core.List.{List, [], ◌∷◌, ◌++◌, append_assoc, append-nil}
use mathlib.Core.List.{Memᴰ}
use mathlib.Core.Logic.{◌⊎◌, inl, inr, ⊎_elim}
use Prim.Native.Nat.{ℕ, zero, suc}
use Rattle.identity.specs.Bits.{Bits}
use Rattle.identity.specs.Order.{below, those, Ascending, Different}
use Rattle.identity.proofs.Orders.{below-own, below_self, below-fork, not-below-fork}
use Rattle.walk.specs.Beginnings.{then, half, Deep}
use Rattle.walk.specs.Probes.{Mark, pass, hit, asked, hits}
use Rattle.walk.proofs.Halves.{deep-half}
use Rattle.walk.proofs.Places.{hits-append}
use Rattle.walk.proofs.Visit.{visit, left, right, hits-in}

fork-below : (p i r : Bits) → below (then p false ++ i) (then p true ++ r) ≡ true
fork-below p i r = ap₂ below (append_assoc p (false ∷ []) i) (append_assoc p (true ∷ []) r) ∙ below-fork p i r

fork-not-below : (p i r : Bits) → below (then p true ++ i) (then p false ++ r) ≡ false
fork-not-below p i r =
    ap₂ below (append_assoc p (true ∷ []) i) (append_assoc p (false ∷ []) r) ∙ not-below-fork p i r

-- every probe of a walk from p begins with p
asked_in : (d : ℕ) (p : Bits) (ids : List Bits) (m : Mark) → Memᴰ m (visit d p ids)
    → (r : Bits) × (asked m ≡ p ++ r)
unfolding visit
asked_in zero p [] m n = ([], ap asked (Memᴰ.eq_of_singleton n) ∙ sym (append-nil p))
asked_in zero p (i ∷ is) m n = ([], ap asked (Memᴰ.eq_of_singleton n) ∙ sym (append-nil p))
asked_in (suc d) p [] m n = ([], ap asked (Memᴰ.eq_of_singleton n) ∙ sym (append-nil p))
asked_in (suc d) p (i ∷ is) m n =
    first (asked_in d (then p false) (half false (i ∷ is)) m) (asked_in d (then p true) (half true (i ∷ is)) m)
    (⊎_elim (λ e. inl e) (λ t. inr (Memᴰ.append_cases (left d p i is) t)) (Memᴰ.cases_cons n))
  where
    first : {A B : Type 0} → (A → (r : Bits) × (asked m ≡ then p false ++ r))
        → (B → (r : Bits) × (asked m ≡ then p true ++ r))
        → (m ≡ pass p) ⊎ (A ⊎ B) → (r : Bits) × (asked m ≡ p ++ r)
    first f g (inl e) = ([], ap asked e ∙ sym (append-nil p))
    first f g (inr (inl a)) = let (r, e) = f a in (false ∷ r, e ∙ append_assoc p (false ∷ []) r)
    first f g (inr (inr b)) = let (r, e) = g b in (true ∷ r, e ∙ append_assoc p (true ∷ []) r)

hit-in : (ms : List Mark) (x : Bits) → Memᴰ x (hits ms) → Memᴰ (hit x) ms
unfolding hits
hit-in [] x m = absurd (Memᴰ.not-nil m)
hit-in (pass p ∷ ms) x m = Memᴰ.tail (hit-in ms x m)
hit-in (hit p ∷ ms) x m =
    elim (Memᴰ.cases_cons m) [ inl e ↦ Memᴰ.head (ap hit e) | inr t ↦ Memᴰ.tail (hit-in ms x t) ]

-- no identity that is still to come is below the probe, and one that is heard is below all that come
abbrev pub Sorted : List Mark → Type 0
Sorted [] = Unit {0}
Sorted (pass p ∷ ms) = ((x : Bits) → Memᴰ x (hits ms) → below x p ≡ false) × Sorted ms
Sorted (hit p ∷ ms) =
    ((x : Bits) → Memᴰ x (hits ms) → below x p ≡ false) × Sorted ms
    × ((m : Mark) → Memᴰ m ms → below p (asked m) ≡ true)

sorted-append : (xs ys : List Mark) → Sorted xs → Sorted ys
    → ((m : Mark) (x : Bits) → Memᴰ m xs → Memᴰ x (hits ys) → below x (asked m) ≡ false)
    → ((x : Bits) (m : Mark) → Memᴰ x (hits xs) → Memᴰ m ys → below x (asked m) ≡ true)
    → Sorted (xs ++ ys)
unfolding hits
sorted-append [] ys s t f g = t
sorted-append (pass p ∷ xs) ys s t f g = (
  λ x m.
      ⊎_elim (s.0 x) (f (pass p) x (Memᴰ.head refl))
      (Memᴰ.append_cases (hits xs) (rw (hits-append xs ys) at m)),
  sorted-append xs ys s.1 t (λ m x n. f m x (Memᴰ.tail n)) g,
)
sorted-append (hit p ∷ xs) ys s t f g = (
  λ x m.
      ⊎_elim (s.0 x) (f (hit p) x (Memᴰ.head refl))
      (Memᴰ.append_cases (hits xs) (rw (hits-append xs ys) at m)),
  sorted-append xs ys s.1 t (λ m x n. f m x (Memᴰ.tail n)) (λ x m n. g x m (Memᴰ.tail n)),
  λ m n. ⊎_elim (s.2 m) (g p m (Memᴰ.head refl)) (Memᴰ.append_cases xs n),
)

pub visit-sorted : (d : ℕ) (p : Bits) (ids : List Bits) → Deep d ids → Sorted (visit d p ids)
unfolding visit hits
visit-sorted zero p [] h = (λ x m. absurd (Memᴰ.not-nil m), tt)
visit-sorted zero p (i ∷ is) h = (λ x m. absurd (Memᴰ.not-nil m), tt, λ m n. absurd (Memᴰ.not-nil n))
visit-sorted (suc d) p [] h = (λ x m. absurd (Memᴰ.not-nil m), tt)
visit-sorted (suc d) p (i ∷ is) h = (
  λ x m. let (j, n, e) = hits-in (suc d) p (i ∷ is) h x m in ap (λ (y : Bits). below y p) e ∙ below-own p j,
  sorted-append (left d p i is) (right d p i is)
      (visit-sorted d (then p false) (half false (i ∷ is)) (deep-half d false (i ∷ is) h))
      (visit-sorted d (then p true) (half true (i ∷ is)) (deep-half d true (i ∷ is) h))
      (λ m x n k.
      let (r, e) = asked_in d (then p false) (half false (i ∷ is)) m n in
      let (j, o, g) = hits-in d (then p true) (half true (i ∷ is)) (deep-half d true (i ∷ is) h) x k in
      rw (e, g) (fork-not-below p j r))
      (λ x m k n.
      let (r, e) = asked_in d (then p true) (half true (i ∷ is)) m n in
      let (j, o, g) = hits-in d (then p false) (half false (i ∷ is)) (deep-half d false (i ∷ is) h) x k in
      rw (e, g) (fork-below p j r)),
)

those-none : (p : Bits) (xs : List Bits) → ((x : Bits) → Memᴰ x xs → below x p ≡ false)
    → those (λ x. below x p) xs ≡ []
unfolding those
those-none p [] f = refl
those-none p (x ∷ xs) f = rw (f x (Memᴰ.head refl)) (those-none p xs (λ y m. f y (Memᴰ.tail m)))

-- what was heard before a probe is what is below it
pub heard-before : (ys : List Mark) (m : Mark) (zs : List Mark) → Sorted (ys ++ m ∷ zs)
    → hits ys ≡ those (λ x. below x (asked m)) (hits (ys ++ m ∷ zs))
unfolding hits those
heard-before [] (pass p) zs s = sym (those-none p (hits zs) s.0)
heard-before [] (hit p) zs s = rw (below_self p) (sym (those-none p (hits zs) s.0))
heard-before (pass y ∷ ys) m zs s = heard-before ys m zs s.1
heard-before (hit y ∷ ys) m zs s =
    rw (s.2 m (Memᴰ.append_right ys (Memᴰ.head refl)))
    (ap (λ (x : List Bits). y ∷ x) (heard-before ys m zs s.1))

pub sorted-ascending : (ms : List Mark) → Sorted ms → Ascending below (hits ms)
unfolding hits
sorted-ascending [] s = tt
sorted-ascending (pass p ∷ ms) s = sorted-ascending ms s.1
sorted-ascending (hit p ∷ ms) s = (λ j m. s.2 (hit j) (hit-in ms j m), sorted-ascending ms s.1)

-- what ascends has no repeats
pub ascending-once : (xs : List Bits) → Ascending below xs → Different xs
ascending-once [] a = tt
ascending-once (x ∷ xs) a = (λ m. true≢false (sym (a.0 x m) ∙ below_self x), ascending-once xs a.1)
