-- The probes of a bus, by halving the list of its identities: how many there are, and what they hear. Assumes nothing.
use mathlib.Core.Path.{◌≡◌, refl, sym, ap, ◌∙◌}
use mathlib.Core.Bool.{Bool, true, false}
use mathlib.Core.List.Memᴰ
use mathlib.Core.List.{List, [], ◌∷◌, ◌++◌, append_assoc, append-nil}
use mathlib.Core.List.{Memᴰ}
use mathlib.Core.Logic.{◌⊎◌, inl, inr}
use Prim.Native.Nat.{ℕ, zero, suc, ◌+◌, ◌*◌, ◌≤◌}
use native.Mathlib.Nat.{suc-mul, mul-add, mul-le-mul_left}
use native.Mathlib.Omega.{arith}
use lib.ListN.{length, length-append}
use Rattle.identity.specs.Bits.{Bits}
use Rattle.identity.specs.Order.{Different}
use Rattle.walk.specs.Beginnings.{then, half, Deep}
use Rattle.walk.specs.Probes.{Mark, pass, hit, hits}
use Rattle.walk.proofs.Halves.{half_in, half_out, deep-half}
use Rattle.walk.proofs.Places.{hits-append}

-- the probes below p, where ids are the identities below p, without it
unfoldable pub visit : ℕ → Bits → List Bits → List Mark
visit zero p [] = pass p ∷ []
visit zero p (i ∷ is) = hit p ∷ []
visit (suc d) p [] = pass p ∷ []
visit (suc d) p (i ∷ is) =
    pass p ∷ (visit d (then p false) (half false (i ∷ is)) ++ visit d (then p true) (half true (i ∷ is)))

-- the different beginnings, shorter than the identities, that the identities have below p
unfoldable pub begins : ℕ → Bits → List Bits → List Bits
begins zero p ids = []
begins (suc d) p [] = []
begins (suc d) p (i ∷ is) =
    p ∷ (begins d (then p false) (half false (i ∷ is)) ++ begins d (then p true) (half true (i ∷ is)))

-- what is below the two halves of p
abbrev pub left : ℕ → Bits → Bits → List Bits → List Mark
left d p i is = visit d (then p false) (half false (i ∷ is))

abbrev pub right : ℕ → Bits → Bits → List Bits → List Mark
right d p i is = visit d (then p true) (half true (i ∷ is))

-- one probe, and two for each beginning
pub visit-length : (d : ℕ) (p : Bits) (ids : List Bits) → length (visit d p ids) ≡ 1 + 2 * length (begins d p ids)
unfolding begins visit
visit-length zero p [] = refl
visit-length zero p (i ∷ is) = refl
visit-length (suc d) p [] = refl
visit-length (suc d) p (i ∷ is) =
    omega (
      arith,
      visit-length d (then p false) (half false (i ∷ is)),
      visit-length d (then p true) (half true (i ∷ is)),
      length-append (left d p i is) (right d p i is),
      length-append (begins d (then p false) (half false (i ∷ is))) (begins d (then p true) (half true (i ∷ is))),
    )

-- the halves together are no longer than the whole
pub halves-length : (ids : List Bits) → length (half false ids) + length (half true ids) ≤ length ids
unfolding half
halves-length [] = omega arith
halves-length ([] ∷ is) = omega (arith, halves-length is)
halves-length ((true ∷ i) ∷ is) = omega (arith, halves-length is)
halves-length ((false ∷ i) ∷ is) = omega (arith, halves-length is)

-- each identity has d beginnings shorter than itself
pub begins-bound : (d : ℕ) (p : Bits) (ids : List Bits) → length (begins d p ids) ≤ d * length ids
unfolding begins half
begins-bound zero p ids = omega arith
begins-bound (suc d) p [] = omega arith
begins-bound (suc d) p (i ∷ is) =
    omega (
      arith,
      begins-bound d (then p false) (half false (i ∷ is)),
      begins-bound d (then p true) (half true (i ∷ is)),
      length-append (begins d (then p false) (half false (i ∷ is))) (begins d (then p true) (half true (i ∷ is))),
      suc-mul d (length (i ∷ is)),
      mul-add d (length (half false (i ∷ is))) (length (half true (i ∷ is))),
      mul-le-mul_left d (halves-length (i ∷ is)),
    )

-- the heard identities are those below, behind p
no_bits : (i : Bits) → length i ≡ zero → i ≡ []
no_bits [] h = refl
no_bits (b ∷ i) h = absurd (omega arith)

pub hits-in : (d : ℕ) (p : Bits) (ids : List Bits) → Deep d ids → (x : Bits)
    → Memᴰ x (hits (visit d p ids)) → (i : Bits) × Memᴰ i ids × (x ≡ p ++ i)
unfolding hits visit
hits-in zero p [] h x m = absurd (Memᴰ.not-nil m)
hits-in zero p (i ∷ is) h x m =
    let here = Memᴰ.head refl in
    (i, here, rw (no_bits i (h i here), append-nil p) (Memᴰ.eq_of_singleton m))
hits-in (suc d) p [] h x m = absurd (Memᴰ.not-nil m)
hits-in (suc d) p (i ∷ is) h x m =
    both (hits-in d (then p false) (half false (i ∷ is)) (deep-half d false (i ∷ is) h) x)
    (hits-in d (then p true) (half true (i ∷ is)) (deep-half d true (i ∷ is) h) x)
    (Memᴰ.append_cases (hits (left d p i is))
    (rw (hits-append (left d p i is) (right d p i is)) at m))
  where
    lift : (b : Bool) → ((j : Bits) × Memᴰ j (half b (i ∷ is)) × (x ≡ then p b ++ j))
        → (j : Bits) × Memᴰ j (i ∷ is) × (x ≡ p ++ j)
    lift b (j, n, e) = (b ∷ j, half_in b j (i ∷ is) n, e ∙ append_assoc p (b ∷ []) j)

    both : {A B : Type 0} → (A → (j : Bits) × Memᴰ j (half false (i ∷ is)) × (x ≡ then p false ++ j))
        → (B → (j : Bits) × Memᴰ j (half true (i ∷ is)) × (x ≡ then p true ++ j))
        → A ⊎ B → (j : Bits) × Memᴰ j (i ∷ is) × (x ≡ p ++ j)
    both f g (inl a) = lift false (f a)
    both f g (inr b) = lift true (g b)

pub hits-out : (d : ℕ) (p : Bits) (ids : List Bits) → Deep d ids → (i : Bits) → Memᴰ i ids
    → Memᴰ (p ++ i) (hits (visit d p ids))
unfolding hits visit
hits-out zero p [] h i m = absurd (Memᴰ.not-nil m)
hits-out zero p (j ∷ js) h i m = Memᴰ.head (ap (λ (x : Bits). p ++ x) (no_bits i (h i m)) ∙ append-nil p)
hits-out (suc d) p [] h i m = absurd (Memᴰ.not-nil m)
hits-out (suc d) p (j ∷ js) h [] m = let e : zero ≡ suc d = h [] m in absurd (omega arith)
hits-out (suc d) p (j ∷ js) h (false ∷ i) m =
    rw (hits-append (left d p j js) (right d p j js))
    (Memᴰ.append_left (hits (right d p j js))
    (Memᴰ.cast (sym (append_assoc p (false ∷ []) i))
    (hits-out d (then p false) (half false (j ∷ js)) (deep-half d false (j ∷ js) h) i (half_out false i (j ∷ js) m))))
hits-out (suc d) p (j ∷ js) h (true ∷ i) m =
    rw (hits-append (left d p j js) (right d p j js))
    (Memᴰ.append_right (hits (left d p j js))
    (Memᴰ.cast (sym (append_assoc p (true ∷ []) i))
    (hits-out d (then p true) (half true (j ∷ js)) (deep-half d true (j ∷ js) h) i (half_out true i (j ∷ js) m))))

-- and there are as many
pub different-half : (b : Bool) (ids : List Bits) → Different ids → Different (half b ids)
unfolding half
different-half b [] n = tt
different-half b ([] ∷ is) n = different-half b is n.1
different-half true ((true ∷ i) ∷ is) n = (λ m. n.0 (half_in true i is m), different-half true is n.1)
different-half true ((false ∷ i) ∷ is) n = different-half true is n.1
different-half false ((true ∷ i) ∷ is) n = different-half false is n.1
different-half false ((false ∷ i) ∷ is) n = (λ m. n.0 (half_in false i is m), different-half false is n.1)

halves-whole : (d : ℕ) (ids : List Bits) → Deep (suc d) ids
    → length (half false ids) + length (half true ids) ≡ length ids
unfolding half
halves-whole d [] h = refl
halves-whole d ([] ∷ is) h = let e : zero ≡ suc d = h [] (Memᴰ.head refl) in absurd (omega arith)
halves-whole d ((true ∷ i) ∷ is) h = omega (arith, halves-whole d is (λ j m. h j (Memᴰ.tail m)))
halves-whole d ((false ∷ i) ∷ is) h = omega (arith, halves-whole d is (λ j m. h j (Memᴰ.tail m)))

pub hits-length : (d : ℕ) (p : Bits) (ids : List Bits) → Deep d ids → Different ids
    → length (hits (visit d p ids)) ≡ length ids
unfolding hits visit
hits-length zero p [] h n = refl
hits-length zero p (i ∷ []) h n = refl
hits-length zero p (i ∷ j ∷ js) h n =
    let first : i ≡ [] = no_bits i (h i (Memᴰ.head refl)) in
    let second : j ≡ [] = no_bits j (h j (Memᴰ.tail (Memᴰ.head refl))) in
    absurd (n.0 (Memᴰ.head (first ∙ sym second)))
hits-length (suc d) p [] h n = refl
hits-length (suc d) p (i ∷ is) h n =
    rw (hits-append (left d p i is) (right d p i is))
    (omega (
      arith,
      length-append (hits (left d p i is)) (hits (right d p i is)),
      hits-length d (then p false) (half false (i ∷ is)) (deep-half d false (i ∷ is) h)
          (different-half false (i ∷ is) n),
      hits-length d (then p true) (half true (i ∷ is)) (deep-half d true (i ∷ is) h) (different-half true (i ∷ is) n),
      halves-whole d (i ∷ is) h,
    ))
