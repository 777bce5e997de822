-- Octets masked with ones over the first bits equal a beginning's octets exactly if their bits begin with it.
-- The law holds over n octets; an identity has 19, and a scan compares 1 to 19 of them. Assumes nothing.
use mathlib.Core.Path.{◌≡◌, refl, sym, ap, ap₂, ◌∙◌}
use mathlib.Core.Bool.{Bool, true, false, ◌&&◌, and-false, and-true}
use mathlib.Core.Logic.{◌↔◌}
use mathlib.Core.List.{List, [], ◌∷◌, ◌++◌}
use Prim.Native.Nat.{ℕ, zero, suc, ◌+◌, ◌*◌, ◌/◌, ◌%◌, ◌≤◌, min}
use native.Mathlib.Omega.{arith}
use lib.Bits.{bit_and, and_step}
use lib.ListN.{length, take, drop, get_or, take-append-drop}
use lib.Seq.{take-append_seam, length-take-le}
use Rattle.octets.specs.Octets.{Octets}
use Rattle.identity.specs.Bits.{Bits, BeginningOf, digit, word, packed, bits_of, ones, masked}
use Rattle.identity.proofs.Words.{digit-small, word-zero, word-suc}
use Rattle.identity.proofs.Packed.{packed-bits, packed-apart, length-bits}

-- bit by bit
both : Bits → Bits → Bits
both [] m = []
both (x ∷ xs) [] = []
both (x ∷ xs) (y ∷ ys) = (x && y) ∷ both xs ys

get_or-both : (b m : Bits) (i : ℕ) → (get_or b i false && get_or m i false) ≡ get_or (both b m) i false
unfolding both
get_or-both [] m i = refl
get_or-both (x ∷ xs) [] i = and-false (get_or (x ∷ xs) i false)
get_or-both (x ∷ xs) (y ∷ ys) zero = refl
get_or-both (x ∷ xs) (y ∷ ys) (suc i) = get_or-both xs ys i

both-nil : (b : Bits) → both b [] ≡ []
unfolding both
both-nil [] = refl
both-nil (x ∷ xs) = refl

drop-both : (n : ℕ) (b m : Bits) → drop n (both b m) ≡ both (drop n b) (drop n m)
unfolding both
drop-both zero b m = refl
drop-both (suc n) [] m = refl
drop-both (suc n) (x ∷ xs) [] = sym (both-nil (drop n xs))
drop-both (suc n) (x ∷ xs) (y ∷ ys) = drop-both n xs ys

both-ones : (b : Bits) (n : ℕ) → both b (ones n) ≡ take n b
unfolding both
both-ones [] zero = refl
both-ones [] (suc n) = refl
both-ones (x ∷ xs) zero = refl
both-ones (x ∷ xs) (suc n) = ap₂ (λ (a : Bool) (l : Bits). a ∷ l) (and-true x) (both-ones xs n)

digit-both : (x y : Bool) → min (digit x) (digit y) ≡ digit (x && y)
digit-both true true = refl
digit-both true false = refl
digit-both false true = refl
digit-both false false = refl

and-pair : (w v : ℕ) (x y : Bool) → bit_and (2 * w + digit x) (2 * v + digit y) ≡ 2 * bit_and w v + digit (x && y)
and-pair w v x y =
    let a : (2 * w + digit x) / 2 ≡ w = omega (arith, digit-small x) in
    let b : (2 * v + digit y) / 2 ≡ v = omega (arith, digit-small y) in
    let d : (2 * w + digit x) % 2 ≡ digit x = omega (arith, digit-small x) in
    let e : (2 * v + digit y) % 2 ≡ digit y = omega (arith, digit-small y) in
    and_step (2 * w + digit x) (2 * v + digit y)
    ∙ ap₂ (λ (s t : ℕ). s * 2 + t) (ap₂ (λ (s t : ℕ). bit_and s t) a b)
    (ap₂ (λ (s t : ℕ). min s t) d e ∙ digit-both x y) ∙ omega arith

and_word : (b m : Bits) (n : ℕ) → bit_and (word b n) (word m n) ≡ word (both b m) n
and_word b m zero = ap₂ (λ (s t : ℕ). bit_and s t) (word-zero b) (word-zero m) ∙ sym (word-zero (both b m))
and_word b m (suc n) =
    ap₂ (λ (s t : ℕ). bit_and s t) (word-suc b n) (word-suc m n)
    ∙ and-pair (word b n) (word m n) (get_or b n false) (get_or m n false)
    ∙ ap₂ (λ (s : ℕ) (t : Bool). 2 * s + digit t) (and_word b m n) (get_or-both b m n)
    ∙ sym (word-suc (both b m) n)

masked_packed : (n : ℕ) (b m : Bits) → masked (packed n b) (packed n m) ≡ packed n (both b m)
unfolding masked packed
masked_packed zero b m = refl
masked_packed (suc n) b m =
    ap₂ (λ (x : ℕ) (l : List ℕ). x ∷ l) (and_word b m 8)
    (masked_packed n (drop 8 b) (drop 8 m) ∙ ap (packed n) (sym (drop-both 8 b m)))

-- octets under ones over k bits are those k bits as octets
pub masked-ones : (s : List ℕ) (k : ℕ) → Octets s
    → masked s (packed (length s) (ones k)) ≡ packed (length s) (take k (bits_of s))
masked-ones s k o =
    let n : ℕ = length s in
    ap (λ (x : List ℕ). masked x (packed n (ones k))) (sym (packed-bits s o)) ∙ masked_packed n (bits_of s) (ones k)
    ∙ ap (packed n) (both-ones (bits_of s) k)

pub masked-begins : (s : List ℕ) (p : Bits) → Octets s → length p ≤ 8 * length s
    → masked s (packed (length s) (ones (length p))) ≡ packed (length s) p ↔ BeginningOf p (bits_of s)
masked-begins s p o h = (there, back)
  where
    there : masked s (packed (length s) (ones (length p))) ≡ packed (length s) p → BeginningOf p (bits_of s)
    there a =
        let n : length (take (length p) (bits_of s)) ≡ length p =
        length-take-le (length p) (bits_of s) (omega (arith, length-bits s)) in
        let e : take (length p) (bits_of s) ≡ p =
        packed-apart (length s) (take (length p) (bits_of s)) p n h (sym (masked-ones s (length p) o) ∙ a) in (
          drop (length p) (bits_of s),
          ap (λ (x : Bits). x ++ drop (length p) (bits_of s)) (sym e) ∙ take-append-drop (length p) (bits_of s),
        )

    back : BeginningOf p (bits_of s) → masked s (packed (length s) (ones (length p))) ≡ packed (length s) p
    back (q, g) =
        masked-ones s (length p) o
        ∙ ap (packed (length s)) (ap (take (length p)) (sym g) ∙ take-append_seam p q)
