-- Bits made into octets and back, either way round: nothing is lost. Assumes nothing.
use mathlib.Core.Path.{◌≡◌, refl, sym, ap, ap₂, ◌∙◌}
use mathlib.Core.Bool.{Bool, true, false}
use mathlib.Core.List.{List, [], ◌∷◌, ◌++◌, append_assoc}
use Prim.Native.Nat.{ℕ, zero, suc, ◌+◌, ◌*◌, ◌-◌, ◌/◌, ◌%◌, ◌^◌, ◌≤◌, ◌<◌}
use native.Mathlib.Nat.{two-pow-succ}
use native.Mathlib.Omega.{arith}
use borrow.Author.Tests.{eqb-true, eqb-false}
use lib.Dec.{eqb}
use lib.ListN.{length, take, drop, get_or, replicate, length-append, length-drop, length-replicate}
use lib.Seq.{take-suc, take-add, take_all, take-append_seam, drop_at, get_or-append_seam}
use Rattle.octets.specs.Octets.{Octets}
use Rattle.identity.specs.Bits.{Bits, digit, word, packed, unpacked, bits_of}
use Rattle.identity.proofs.Words.{digit-small, word-zero, word-suc, packed-fill}

pub length-unpacked : (n x : ℕ) → length (unpacked n x) ≡ n
unfolding unpacked
length-unpacked zero x = refl
length-unpacked (suc n) x =
    omega (arith, length-append (unpacked n (x / 2)) (eqb (x % 2) 1 ∷ []), length-unpacked n (x / 2))

pub length-bits : (xs : List ℕ) → length (bits_of xs) ≡ 8 * length xs
unfolding bits_of
length-bits [] = refl
length-bits (x ∷ xs) =
    omega (arith, length-append (unpacked 8 x) (bits_of xs), length-unpacked 8 x, length-bits xs)

digit-eqb : (b : Bool) → eqb (digit b) 1 ≡ b
digit-eqb true = refl
digit-eqb false = refl

-- a number's bits are those that it was made of
unpacked-word : (p : Bits) (n : ℕ) → n ≤ length p → unpacked n (word p n) ≡ take n p
unfolding unpacked
unpacked-word p zero h = refl
unpacked-word p (suc n) h =
    let b : Bool = get_or p n false in
    let q : (2 * word p n + digit b) / 2 ≡ word p n = omega (arith, digit-small b) in
    let r : (2 * word p n + digit b) % 2 ≡ digit b = omega (arith, digit-small b) in
    rw (word-suc p n, q, r, digit-eqb b, unpacked-word p n (omega arith), take-suc p n false (omega arith))

pub bits-packed : (n : ℕ) (p : Bits) → 8 * n ≤ length p → bits_of (packed n p) ≡ take (8 * n) p
unfolding packed bits_of
bits-packed zero p h = refl
bits-packed (suc n) p h =
    let e : 8 + 8 * n ≡ 8 * suc n = omega arith in
    ap₂ (λ (x y : Bits). x ++ y) (unpacked-word p 8 (omega arith))
    (bits-packed n (drop 8 p) (omega (arith, length-drop 8 p)))
    ∙ sym (take-add 8 (8 * n) p) ∙ ap (λ (k : ℕ). take k p) e

-- all the bits of n octets
pub bits-whole : (n : ℕ) (p : Bits) → length p ≡ 8 * n → bits_of (packed n p) ≡ p
bits-whole n p e = bits-packed n p (omega arith) ∙ take_all (8 * n) p (omega arith)

low_bit : (x : ℕ) → digit (eqb (x % 2) 1) ≡ x % 2
low_bit x = go (eqb (x % 2) 1) refl
  where
    go : (t : Bool) → eqb (x % 2) 1 ≡ t → digit t ≡ x % 2
    go true e = sym (eqb-true (x % 2) 1 e)
    go false e = let n : (x % 2 ≡ 1 → ⊥) = eqb-false (x % 2) 1 e in omega arith

word-unpacked : (n x : ℕ) (r : Bits) → x < 2 ^ n → word (unpacked n x ++ r) n ≡ x
unfolding unpacked
word-unpacked zero x r h = word-zero r ∙ omega arith
word-unpacked (suc n) x r h =
    let b : Bool = eqb (x % 2) 1 in
    let u : Bits = unpacked n (x / 2) in
    let a : (u ++ (b ∷ [])) ++ r ≡ u ++ (b ∷ r) = append_assoc u (b ∷ []) r in
    let k : x / 2 < 2 ^ n = omega (arith, two-pow-succ n) in
    let at : get_or (u ++ (b ∷ r)) n false ≡ b =
    ap (λ (i : ℕ). get_or (u ++ (b ∷ r)) i false) (sym (length-unpacked n (x / 2))) ∙ get_or-append_seam u b r false in
    ap (λ (l : Bits). word l (suc n)) a ∙ word-suc (u ++ (b ∷ r)) n
    ∙ ap₂ (λ (w d : ℕ). 2 * w + d) (word-unpacked n (x / 2) (b ∷ r) k) (ap digit at ∙ low_bit x)
    ∙ omega arith

pub packed-bits : (xs : List ℕ) → Octets xs → packed (length xs) (bits_of xs) ≡ xs
unfolding packed bits_of
packed-bits [] h = refl
packed-bits (x ∷ xs) h =
    let e : drop 8 (unpacked 8 x ++ bits_of xs) ≡ bits_of xs =
    drop_at (unpacked 8 x) (bits_of xs) 8 (length-unpacked 8 x) in
    ap₂ (λ (a : ℕ) (l : List ℕ). a ∷ l) (word-unpacked 8 x (bits_of xs) h.0)
    (ap (packed (length xs)) e ∙ packed-bits xs h.1)

-- so octets are known by their bits
pub bits-apart : (xs ys : List ℕ) → Octets xs → Octets ys → length xs ≡ length ys → bits_of xs ≡ bits_of ys → xs ≡ ys
bits-apart xs ys h k e b =
    sym (packed-bits xs h) ∙ ap₂ (λ (n : ℕ) (p : Bits). packed n p) e b ∙ packed-bits ys k

-- and a beginning by its octets and its number of bits
pub packed-front : (n : ℕ) (p : Bits) → length p ≤ 8 * n → take (length p) (bits_of (packed n p)) ≡ p
packed-front n p h =
    let k : ℕ = 8 * n - length p in
    let e : length (p ++ replicate k false) ≡ 8 * n =
    omega (arith, length-append p (replicate k false), length-replicate k false) in
    ap (λ (x : List ℕ). take (length p) (bits_of x)) (sym (packed-fill n p k))
    ∙ ap (take (length p)) (bits-whole n (p ++ replicate k false) e) ∙ take-append_seam p (replicate k false)

pub packed-apart : (n : ℕ) (p q : Bits) → length p ≡ length q → length q ≤ 8 * n → packed n p ≡ packed n q → p ≡ q
packed-apart n p q e h g =
    sym (packed-front n p (omega arith)) ∙ ap₂ (λ (k : ℕ) (x : List ℕ). take k (bits_of x)) e g ∙ packed-front n q h
