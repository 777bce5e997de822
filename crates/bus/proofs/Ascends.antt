-- Two ascending lists with the same members are one list. Assumes nothing.
use mathlib.Core.Path.{◌≡◌, refl, sym, ap₂, ◌∙◌}
use mathlib.Core.Bool.{Bool, true, false, cond}
use mathlib.Core.Logic.{◌↔◌, ◌⊎◌, inl, inr}
use mathlib.Core.List.{List, [], ◌∷◌, Memᴰ}
use mathlib.Core.List.Memᴰ
use Prim.Native.Nat.{ℕ}
use native.Mathlib.Omega.{arith}
use borrow.Author.Tests.{ltb-true, eqb-true, eqb-false, eq-eqb, ne_eqb}
use lib.Dec.{ltb, eqb}
use Rattle.octets.proofs.Words.{true-not-false}
use Rattle.identity.specs.Order.{lower, Ascending}

pub lower-one-way : (s t : List ℕ) → lower s t ≡ true → lower t s ≡ true → ⊥
unfolding lower
lower-one-way [] t e f = true-not-false (sym e)
lower-one-way (x ∷ s) [] e f = true-not-false (sym e)
lower-one-way (x ∷ s) (y ∷ t) e f = go (eqb x y) refl e (lower-one-way s t)
  where
    go : (b : Bool) → eqb x y ≡ b → cond b (lower s t) (ltb x y) ≡ true
        → (lower s t ≡ true → lower t s ≡ true → ⊥) → ⊥
    go true q h more = more h (rw (eq-eqb y x (sym (eqb-true x y q))) at f)
    go false q h more =
        let back : ltb y x ≡ true = rw (ne_eqb y x (λ w. eqb-false x y q (sym w))) at f in
        omega (arith, ltb-true x y h, ltb-true y x back)

-- what is behind the head of an ascending list is not the head
behind : (x y z : List ℕ) (ys : List (List ℕ)) → x ≡ y → lower x z ≡ true → Memᴰ z (y ∷ ys) → Memᴰ z ys
behind x y z ys e h m = go (Memᴰ.cases_cons m)
  where
    go : (z ≡ y) ⊎ Memᴰ z ys → Memᴰ z ys
    go (inl f) =
        let self : lower x x ≡ true = rw (f ∙ sym e) at h in
        absurd (lower-one-way x x self self)
    go (inr t) = t

pub one-order : (xs ys : List (List ℕ)) → Ascending lower xs → Ascending lower ys
    → ((z : List ℕ) → Memᴰ z xs ↔ Memᴰ z ys) → xs ≡ ys
one-order [] [] a b m = refl
one-order [] (y ∷ ys) a b m = absurd (Memᴰ.not-nil ((m y).1 (Memᴰ.head refl)))
one-order (x ∷ xs) [] a b m = absurd (Memᴰ.not-nil ((m x).0 (Memᴰ.head refl)))
one-order (x ∷ xs) (y ∷ ys) a b m =
    let e : x ≡ y =
    heads (Memᴰ.cases_cons ((m x).0 (Memᴰ.head refl))) (Memᴰ.cases_cons ((m y).1 (Memᴰ.head refl))) in
    ap₂ (λ (z : List ℕ) (zs : List (List ℕ)). z ∷ zs) e
    (one-order xs ys a.1 b.1
    (λ z. (
      λ n. behind x y z ys e (a.0 z n) ((m z).0 (Memᴰ.tail n)),
      λ n. behind y x z xs (sym e) (b.0 z n) ((m z).1 (Memᴰ.tail n)),
    )))
  where
    heads : (x ≡ y) ⊎ Memᴰ x ys → (y ≡ x) ⊎ Memᴰ y xs → x ≡ y
    heads (inl e) q = e
    heads (inr t) (inl e) = sym e
    heads (inr t) (inr u) = absurd (lower-one-way x y (a.0 y u) (b.0 x t))
