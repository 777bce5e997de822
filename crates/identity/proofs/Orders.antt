-- The order of octets is that of their bits, and so is the order below a beginning filled with zeros. Assumes nothing.
use mathlib.Core.Path.{◌≡◌, refl, sym, ap, ap₂, ◌∙◌}
use mathlib.Core.Bool.{Bool, true, false, cond}
use mathlib.Core.List.{List, [], ◌∷◌, ◌++◌, append_assoc, append-nil}
use Prim.Native.Nat.{ℕ, zero, suc, ◌*◌, ◌-◌, ◌/◌, ◌%◌, ◌^◌, ◌≤◌, ◌<◌}
use native.Mathlib.Nat.{two-pow-succ}
use native.Mathlib.Omega.{arith}
use borrow.Author.Tests.{lt-ltb, le-ltb, eq-eqb, ne_eqb, ltb-true, ltb-false, eqb-true, eqb-false}
use lib.Dec.{ltb, eqb}
use lib.ListN.{length, replicate, length-append, length-replicate}
use Rattle.octets.specs.Octets.{Octets}
use Rattle.identity.specs.Bits.{Bits, packed, unpacked, bits_of}
use Rattle.identity.specs.Order.{below, lower}
use Rattle.identity.proofs.Words.{packed-octets, packed-fill, length-packed}
use Rattle.identity.proofs.Packed.{bits-whole}

-- a beginning is not below itself with more behind it
pub below-own : (p i : Bits) → below (p ++ i) p ≡ false
unfolding below
below-own [] [] = refl
below-own [] (b ∷ i) = refl
below-own (true ∷ p) i = below-own p i
below-own (false ∷ p) i = below-own p i

pub below_self : (p : Bits) → below p p ≡ false
below_self p = ap (λ (x : Bits). below x p) (sym (append-nil p)) ∙ below-own p []

-- where two fork
pub below-fork : (p i r : Bits) → below (p ++ false ∷ i) (p ++ true ∷ r) ≡ true
unfolding below
below-fork [] i r = refl
below-fork (true ∷ p) i r = below-fork p i r
below-fork (false ∷ p) i r = below-fork p i r

pub not-below-fork : (p i r : Bits) → below (p ++ true ∷ i) (p ++ false ∷ r) ≡ false
unfolding below
not-below-fork [] i r = refl
not-below-fork (true ∷ p) i r = not-below-fork p i r
not-below-fork (false ∷ p) i r = not-below-fork p i r

-- zeros behind a beginning change nothing
below-zeros : (l : Bits) (k : ℕ) → below l (replicate k false) ≡ false
unfolding below
below-zeros [] k = refl
below-zeros (a ∷ l) zero = refl
below-zeros (true ∷ l) (suc k) = refl
below-zeros (false ∷ l) (suc k) = below-zeros l k

below_none : (l : Bits) → below l [] ≡ false
unfolding below
below_none [] = refl
below_none (a ∷ l) = refl

pub below-fill : (l p : Bits) (k : ℕ) → below l (p ++ replicate k false) ≡ below l p
unfolding below
below-fill l [] k = below-zeros l k ∙ sym (below_none l)
below-fill [] (b ∷ p) k = refl
below-fill (true ∷ l) (true ∷ p) k = below-fill l p k
below-fill (true ∷ l) (false ∷ p) k = refl
below-fill (false ∷ l) (true ∷ p) k = refl
below-fill (false ∷ l) (false ∷ p) k = below-fill l p k

-- the order by a number's last bit, once the others are the same
last_bit : (x y : ℕ) (r s : Bits) → x / 2 ≡ y / 2
    → below (eqb (x % 2) 1 ∷ r) (eqb (y % 2) 1 ∷ s) ≡ cond (eqb x y) (below r s) (ltb x y)
unfolding below
last_bit x y r s e = go (eqb (x % 2) 1) (eqb (y % 2) 1) refl refl
  where
    go : (a b : Bool) → eqb (x % 2) 1 ≡ a → eqb (y % 2) 1 ≡ b
        → below (a ∷ r) (b ∷ s) ≡ cond (eqb x y) (below r s) (ltb x y)
    go true true f g =
        let h : x ≡ y = omega (arith, eqb-true (x % 2) 1 f, eqb-true (y % 2) 1 g) in
        rw (eq-eqb x y h)
    go true false f g =
        let n : (y % 2 ≡ 1 → ⊥) = eqb-false (y % 2) 1 g in
        let h : y < x = omega (arith, eqb-true (x % 2) 1 f) in
        rw (ne_eqb x y (λ q. omega arith), le-ltb x y (omega arith))
    go false true f g =
        let n : (x % 2 ≡ 1 → ⊥) = eqb-false (x % 2) 1 f in
        let h : x < y = omega (arith, eqb-true (y % 2) 1 g) in
        rw (ne_eqb x y (λ q. omega arith), lt-ltb x y h)
    go false false f g =
        let n : (x % 2 ≡ 1 → ⊥) = eqb-false (x % 2) 1 f in
        let m : (y % 2 ≡ 1 → ⊥) = eqb-false (y % 2) 1 g in
        let h : x ≡ y = omega arith in
        rw (eq-eqb x y h)

-- the order of two numbers is that of their bits, most significant first
unpacked-below : (n x y : ℕ) (r s : Bits) → x < 2 ^ n → y < 2 ^ n
    → below (unpacked n x ++ r) (unpacked n y ++ s) ≡ cond (eqb x y) (below r s) (ltb x y)
unfolding unpacked
unpacked-below zero x y r s h k = let e : x ≡ y = omega arith in rw (eq-eqb x y e)
unpacked-below (suc n) x y r s h k =
    let a : Bool = eqb (x % 2) 1 in
    let b : Bool = eqb (y % 2) 1 in
    let u : Bits = unpacked n (x / 2) in
    let v : Bits = unpacked n (y / 2) in
    let hx : x / 2 < 2 ^ n = omega (arith, two-pow-succ n) in
    let hy : y / 2 < 2 ^ n = omega (arith, two-pow-succ n) in
    ap₂ below (append_assoc u (a ∷ []) r) (append_assoc v (b ∷ []) s)
    ∙ unpacked-below n (x / 2) (y / 2) (a ∷ r) (b ∷ s) hx hy ∙ go (eqb (x / 2) (y / 2)) refl
  where
    go : (t : Bool) → eqb (x / 2) (y / 2) ≡ t
        → cond t (below (eqb (x % 2) 1 ∷ r) (eqb (y % 2) 1 ∷ s)) (ltb (x / 2) (y / 2))
        ≡ cond (eqb x y) (below r s) (ltb x y)
    go true e = last_bit x y r s (eqb-true (x / 2) (y / 2) e)
    go false e =
        let n : (x / 2 ≡ y / 2 → ⊥) = eqb-false (x / 2) (y / 2) e in
        rw (ne_eqb x y (λ q. n (ap (λ (z : ℕ). z / 2) q))) (less (ltb (x / 2) (y / 2)) refl n)
      where
        less : (t : Bool) → ltb (x / 2) (y / 2) ≡ t → (x / 2 ≡ y / 2 → ⊥) → t ≡ ltb x y
        less true f n = sym (lt-ltb x y (omega (arith, ltb-true (x / 2) (y / 2) f)))
        less false f n = sym (le-ltb x y (omega (arith, ltb-false (x / 2) (y / 2) f)))

-- so it is with octets, as many on either side
pub lower-below : (s t : List ℕ) → Octets s → Octets t → length s ≡ length t → lower s t ≡ below (bits_of s) (bits_of t)
unfolding lower bits_of below
lower-below [] t o q e = refl
lower-below (x ∷ s) [] o q e = absurd (omega arith)
lower-below (x ∷ s) (y ∷ t) o q e =
    ap (λ (b : Bool). cond (eqb x y) b (ltb x y)) (lower-below s t o.1 q.1 (omega arith))
    ∙ sym (unpacked-below 8 x y (bits_of s) (bits_of t) o.0 q.0)

-- 01: "below that, filled with zeros"
pub lower-packed : (n : ℕ) (l p : Bits) → length l ≡ 8 * n → length p ≤ 8 * n
    → lower (packed n l) (packed n p) ≡ below l p
lower-packed n l p e h =
    let k : ℕ = 8 * n - length p in
    let z : Bits = replicate k false in
    let f : length (p ++ z) ≡ 8 * n = omega (arith, length-append p z, length-replicate k false) in
    ap (lower (packed n l)) (sym (packed-fill n p k))
    ∙ lower-below (packed n l) (packed n (p ++ z)) (packed-octets n l) (packed-octets n (p ++ z))
    (length-packed n l ∙ sym (length-packed n (p ++ z)))
    ∙ ap₂ below (bits-whole n l e) (bits-whole n (p ++ z) f) ∙ below-fill l p k
