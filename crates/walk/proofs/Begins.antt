-- `begins` has each beginning of an identity that is shorter than it, once; and whoever else lists them, once each,
-- comes to the same number. Assumes nothing.
use mathlib.Core.Path.{◌≡◌, refl, sym, ◌∙◌, subst}
use mathlib.Core.Bool.{Bool, true, false}
use mathlib.Core.List.Memᴰ
use mathlib.Core.List.{List, [], ◌∷◌, ◌++◌, append_assoc, append-nil}
use mathlib.Core.List.{Memᴰ}
use mathlib.Core.Logic.{◌⊎◌, inl, inr, ⊎_elim}
use Prim.Native.Nat.{ℕ, zero, suc, ◌≤◌, ◌<◌}
use native.Mathlib.Omega.{arith}
use lib.ListN.{length}
use Rattle.identity.specs.Bits.{Bits, BeginningOf}
use Rattle.identity.specs.Order.{Different}
use Rattle.walk.specs.Beginnings.{then, half, Matches}
use Rattle.walk.specs.Demand.{Shorter}
use Rattle.walk.proofs.Halves.{half_in, half_out}
use Rattle.walk.proofs.Once.{different-append, longer, forked}
use Rattle.walk.proofs.Visit.{begins}

-- shorter than d bits, and the beginning of an identity
abbrev Short : ℕ → List Bits → Bits → Type 0
Short d ids q = (length q < d) × Matches q ids

-- what is below the two halves of p
abbrev left : ℕ → Bits → Bits → List Bits → List Bits
left d p i is = begins d (then p false) (half false (i ∷ is))

abbrev right : ℕ → Bits → Bits → List Bits → List Bits
right d p i is = begins d (then p true) (half true (i ∷ is))

begins-in : (d : ℕ) (p : Bits) (ids : List Bits) (x : Bits) → Memᴰ x (begins d p ids)
    → (q : Bits) × Short d ids q × (p ++ q ≡ x)
unfolding begins
begins-in zero p ids x m = absurd (Memᴰ.not-nil m)
begins-in (suc d) p [] x m = absurd (Memᴰ.not-nil m)
begins-in (suc d) p (i ∷ is) x m =
    ⊎_elim (λ e. ([], (omega arith, (i, Memᴰ.head refl)), append-nil p ∙ sym e))
    (λ t.
    ⊎_elim (λ a. lift false (begins-in d (then p false) (half false (i ∷ is)) x a))
    (λ b. lift true (begins-in d (then p true) (half true (i ∷ is)) x b))
    (Memᴰ.append_cases (left d p i is) t))
    (Memᴰ.cases_cons m)
  where
    lift : (b : Bool) → ((q : Bits) × Short d (half b (i ∷ is)) q × (then p b ++ q ≡ x))
        → (q : Bits) × Short (suc d) (i ∷ is) q × (p ++ q ≡ x)
    lift b (q, (n, (r, k)), e) =
        (b ∷ q, (omega arith, (r, half_in b (q ++ r) (i ∷ is) k)), sym (append_assoc p (b ∷ []) q) ∙ e)

begins-out : (d : ℕ) (p : Bits) (ids : List Bits) (q : Bits) → Short d ids q → Memᴰ (p ++ q) (begins d p ids)
unfolding begins
begins-out zero p ids q h = absurd (omega arith)
begins-out (suc d) p [] q h = absurd (Memᴰ.not-nil h.1.1)
begins-out (suc d) p (i ∷ is) [] h = Memᴰ.head (append-nil p)
begins-out (suc d) p (i ∷ is) (false ∷ q) (n, (r, k)) =
    Memᴰ.tail (Memᴰ.append_left (right d p i is)
    (Memᴰ.cast (sym (append_assoc p (false ∷ []) q))
    (begins-out d (then p false) (half false (i ∷ is)) q (omega arith, (r, half_out false (q ++ r) (i ∷ is) k)))))
begins-out (suc d) p (i ∷ is) (true ∷ q) (n, (r, k)) =
    Memᴰ.tail (Memᴰ.append_right (left d p i is)
    (Memᴰ.cast (sym (append_assoc p (true ∷ []) q))
    (begins-out d (then p true) (half true (i ∷ is)) q (omega arith, (r, half_out true (q ++ r) (i ∷ is) k)))))

begins-once : (d : ℕ) (p : Bits) (ids : List Bits) → Different (begins d p ids)
unfolding begins
begins-once zero p ids = tt
begins-once (suc d) p [] = tt
begins-once (suc d) p (i ∷ is) = (
  λ m.
      ⊎_elim (λ a. longer p false (in-half false p a)) (λ b. longer p true (in-half true p b))
      (Memᴰ.append_cases (left d p i is) m),
  different-append (left d p i is) (right d p i is) (begins-once d (then p false) (half false (i ∷ is)))
      (begins-once d (then p true) (half true (i ∷ is))) (λ x a b. forked p x (in-half false x a) (in-half true x b)),
)
  where
    in-half : (b : Bool) (x : Bits) → Memᴰ x (begins d (then p b) (half b (i ∷ is))) → BeginningOf (then p b) x
    in-half b x m = let (q, n, e) = begins-in d (then p b) (half b (i ∷ is)) x m in (q, e)

pub begins-shorter : (d : ℕ) (ids : List Bits) → Shorter d ids (begins d [] ids)
begins-shorter d ids = record {
  members = λ x. (
    λ m. let (q, n, e) = begins-in d [] ids x m in subst (Short d ids) e n,
    begins-out d [] ids x,
  );
  once = begins-once d [] ids;
}

-- a list without an element that it has
rest : (x : Bits) (ys : List Bits) → Memᴰ x ys
    → (zs : List Bits) × (length ys ≡ suc (length zs)) × ((y : Bits) → (y ≡ x → ⊥) → Memᴰ y ys → Memᴰ y zs)
rest x [] m = absurd (Memᴰ.not-nil m)
rest x (y ∷ ys) m = go (rest x ys) (Memᴰ.cases_cons m)
  where
    Rest : List Bits → Type 0
    Rest us =
        (zs : List Bits) × (length us ≡ suc (length zs)) × ((w : Bits) → (w ≡ x → ⊥) → Memᴰ w us → Memᴰ w zs)

    go : (Memᴰ x ys → Rest ys) → (x ≡ y) ⊎ Memᴰ x ys → Rest (y ∷ ys)
    go f (inl e) = (ys, refl, λ w n k. ⊎_elim (λ a. absurd (n (a ∙ sym e))) (λ t. t) (Memᴰ.cases_cons k))
    go f (inr t) =
        let (zs, l, g) = f t in (
          y ∷ zs,
          omega (arith, l),
          λ w n k. ⊎_elim (λ a. Memᴰ.head a) (λ u. Memᴰ.tail (g w n u)) (Memᴰ.cases_cons k),
        )

-- a list without repeats whose members are all in another is no longer than it
pub no_more : (xs ys : List Bits) → Different xs → ((x : Bits) → Memᴰ x xs → Memᴰ x ys)
    → length xs ≤ length ys
no_more [] ys n f = omega arith
no_more (x ∷ xs) ys n f =
    let (zs, l, g) = rest x ys (f x (Memᴰ.head refl)) in
    omega (
      arith,
      l,
      no_more xs zs n.1 (λ y m. g y (λ e. n.0 (Memᴰ.cast (sym e) m)) (f y (Memᴰ.tail m))),
    )

-- the number of the different beginnings does not depend on who lists them
pub shorter-number : (d : ℕ) (ids xs ys : List Bits) → Shorter d ids xs → Shorter d ids ys → length xs ≡ length ys
shorter-number d ids xs ys a b =
    omega (
      arith,
      no_more xs ys a.once (λ x m. (b.members x).1 ((a.members x).0 m)),
      no_more ys xs b.once (λ x m. (a.members x).1 ((b.members x).0 m)),
    )
