-- Words of bits and rows of octets made of them: their size, their elements, when two are the same.
-- Assumes nothing.
use mathlib.Core.Path.{◌≡◌, refl, sym, ap, ap₂, ◌∙◌}
use mathlib.Core.Bool.{Bool, true, false}
use mathlib.Core.List.{List, [], ◌∷◌, ◌++◌}
use Prim.Native.Nat.{ℕ, zero, suc, ◌+◌, ◌*◌, ◌≤◌, ◌<◌, ◌^◌, min}
use native.Mathlib.Nat.{two-pow-succ, pow-le-pow_right}
use native.Mathlib.Omega.{arith}
use lib.ListN.{length, take, drop, get_or, replicate}
use lib.ListN.{length-take, get_or-eq_default}
use lib.Seq.{get_or-take, get_or-drop, drop-drop, ext_get_or}
use Rattle.octets.specs.Octets.{Octets}
use Rattle.identity.specs.Bits.{Bits, digit, word, packed, ones}

pub digit-small : (b : Bool) → digit b ≤ 1
digit-small true = omega arith
digit-small false = omega arith

pub word-zero : (p : Bits) → word p 0 ≡ 0
unfolding word
word-zero p = refl

pub word-suc : (p : Bits) (n : ℕ) → word p (suc n) ≡ 2 * word p n + digit (get_or p n false)
unfolding word
word-suc p n = refl

pub word_bound : (p : Bits) (n : ℕ) → word p n < 2 ^ n
word_bound p zero = rw (word-zero p) (omega arith)
word_bound p (suc n) =
    rw (word-suc p n, two-pow-succ n) (omega (arith, word_bound p n, digit-small (get_or p n false)))

pub word_small : (p : Bits) (n : ℕ) → n < 8 → word p n ≤ 127
word_small p n h =
    let k : 2 ^ n ≤ 2 ^ 7 = pow-le-pow_right {n = 2} (omega arith) {i = n} {j = 7} (omega arith) in
    omega (arith, word_bound p n)

word_same : (p q : Bits) (n : ℕ) → ((i : ℕ) → i < n → get_or p i false ≡ get_or q i false) → word p n ≡ word q n
word_same p q zero e = word-zero p ∙ sym (word-zero q)
word_same p q (suc n) e =
    word-suc p n
    ∙ ap₂ (λ (w : ℕ) (b : Bool). 2 * w + digit b) (word_same p q n (λ i h. e i (omega arith))) (e n (omega arith))
    ∙ sym (word-suc q n)

pub length-packed : (n : ℕ) (p : Bits) → length (packed n p) ≡ n
unfolding packed
length-packed zero p = refl
length-packed (suc n) p = ap suc (length-packed n (drop 8 p))

pub packed-at : (n : ℕ) (p : Bits) (j : ℕ) → j < n → get_or (packed n p) j 0 ≡ word (drop (8 * j) p) 8
unfolding packed
packed-at zero p j h = absurd (omega arith)
packed-at (suc n) p zero h = refl
packed-at (suc n) p (suc j) h =
    let e : 8 + 8 * j ≡ 8 * suc j = omega arith in
    packed-at n (drop 8 p) j (omega arith)
    ∙ ap (λ (q : Bits). word q 8) (drop-drop (8 * j) 8 p ∙ ap (λ (k : ℕ). drop k p) e)

pub packed-octets : (n : ℕ) (p : Bits) → Octets (packed n p)
unfolding packed
packed-octets zero p = tt
packed-octets (suc n) p = (word_bound p 8, packed-octets n (drop 8 p))

-- the octets are the same where the bits are, up to as many as the octets have
pub packed-same : (n : ℕ) (p q : Bits) → ((i : ℕ) → i < 8 * n → get_or p i false ≡ get_or q i false)
    → packed n p ≡ packed n q
unfolding packed
packed-same zero p q e = refl
packed-same (suc n) p q e =
    ap₂ (λ (x : ℕ) (xs : List ℕ). x ∷ xs) (word_same p q 8 (λ i h. e i (omega arith)))
    (packed-same n (drop 8 p) (drop 8 q)
    (λ i h. get_or-drop 8 p i false ∙ e (8 + i) (omega arith) ∙ sym (get_or-drop 8 q i false)))

pub packed-take : (n : ℕ) (p : Bits) → packed n (take (8 * n) p) ≡ packed n p
packed-take n p = packed-same n (take (8 * n) p) p (λ i h. get_or-take (8 * n) p i false h)

get_or-zeros : (k i : ℕ) → get_or (replicate k false) i false ≡ false
get_or-zeros zero i = refl
get_or-zeros (suc k) zero = refl
get_or-zeros (suc k) (suc i) = get_or-zeros k i

get_or-fill : (p : Bits) (k i : ℕ) → get_or (p ++ replicate k false) i false ≡ get_or p i false
get_or-fill [] k i = get_or-zeros k i
get_or-fill (x ∷ p) k zero = refl
get_or-fill (x ∷ p) k (suc i) = get_or-fill p k i

-- zeros behind a beginning change nothing
pub packed-fill : (n : ℕ) (p : Bits) (k : ℕ) → packed n (p ++ replicate k false) ≡ packed n p
packed-fill n p k = packed-same n (p ++ replicate k false) p (λ i h. get_or-fill p k i)

-- ones cut short are fewer ones
ones-take : (n k : ℕ) → take n (ones k) ≡ ones (min n k)
ones-take zero k = let e : min 0 k ≡ 0 = omega arith in rw e
ones-take (suc n) zero = let e : min (suc n) 0 ≡ 0 = omega arith in rw e
ones-take (suc n) (suc k) =
    let e : min (suc n) (suc k) ≡ suc (min n k) = omega arith in
    rw e (ap (λ (x : Bits). true ∷ x) (ones-take n k))

-- as octets, ones are so many as fit
pub ones-within : (n b : ℕ) → packed n (ones (min b (8 * n))) ≡ packed n (ones b)
ones-within n b =
    let e : min b (8 * n) ≡ min (8 * n) b = omega arith in
    rw e (ap (packed n) (sym (ones-take (8 * n) b)) ∙ packed-take n (ones b))

pub ones-packed : (n b : ℕ) → packed n (take b (ones (8 * n))) ≡ packed n (ones b)
ones-packed n b = ap (packed n) (ones-take b (8 * n)) ∙ ones-within n b

-- a bit of a beginning that is the first n of a row
pub bit_in : (l : Bits) (n at : ℕ) (b : Bool) → at < n → get_or l at false ≡ b
    → digit b ≡ digit (get_or (take n l) at false)
bit_in l n at b h e = ap digit (sym e ∙ sym (get_or-take n l at false h))

pub bit_past : (l : Bits) (n at : ℕ) → n ≤ at → 0 ≡ digit (get_or (take n l) at false)
bit_past l n at h =
    ap digit (sym (get_or-eq_default (take n l) false {n = at} (omega (arith, length-take n l))))

-- a row of octets is what its elements say
pub packed_is : (n : ℕ) (p : Bits) (o : List ℕ) → length o ≡ n
    → ((j : ℕ) → j < n → get_or o j 0 ≡ word (drop (8 * j) p) 8) → o ≡ packed n p
packed_is n p o e each =
    ext_get_or 0 o (packed n p) (e ∙ sym (length-packed n p))
    (λ j h. let k : j < n = omega (arith, h, e) in each j k ∙ sym (packed-at n p j k))
