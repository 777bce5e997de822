-- The masked comparison of a scan, over the left-most n octets of a padded identity, 19 or fewer: an identity answers
-- exactly if its bits begin with what is asked for. Assumes nothing.
use mathlib.Core.Path.{◌≡◌, refl, sym, ap, ap₂, ◌∙◌, subst}
use mathlib.Core.Bool.{true, false≢true}
use mathlib.Core.Logic.{◌↔◌}
use mathlib.Core.List.{List, [], ◌∷◌, ◌++◌, append_assoc}
use Prim.Native.Nat.{ℕ, zero, suc, ◌*◌, ◌≤◌}
use native.Mathlib.Omega.{arith}
use borrow.Author.Tests.{eqb-true, eq-eqb}
use lib.Bits.{bit_and}
use lib.Dec.{eqb}
use lib.ListN.{length, take, drop, take-append-drop}
use lib.Seq.{length-take-le, take-append-le, take-append_seam}
use Rattle.octets.proofs.Bounds.{octets-take}
use Rattle.identity.specs.Bits.{Bits, BeginningOf, packed, unpacked, bits_of, ones, masked}
use Rattle.identity.specs.Identity.{width, allowed_identity, padded, same, answers_scan}
use Rattle.identity.proofs.Words.{length-packed}
use Rattle.identity.proofs.Packed.{length-bits}
use Rattle.identity.proofs.Masks.{masked-begins}
use Rattle.octets.proofs.Words.{and_parts}
use Rattle.identity.proofs.Identities.{allowed-parts, printable-octets, length-padded, padded-octets}

pub same-is : (s t : List ℕ) → same s t ≡ true → s ≡ t
unfolding same
same-is [] [] e = refl
same-is [] (y ∷ t) e = absurd (false≢true e)
same-is (x ∷ s) [] e = absurd (false≢true e)
same-is (x ∷ s) (y ∷ t) e =
    let (a, b) = and_parts (eqb x y) (same s t) e in
    ap₂ (λ (z : ℕ) (zs : List ℕ). z ∷ zs) (eqb-true x y a) (same-is s t b)

pub is_same : (s t : List ℕ) → s ≡ t → same s t ≡ true
unfolding same
is_same s t e = subst (λ (l : List ℕ). same s l ≡ true) e (self s)
  where
    self : (l : List ℕ) → same l l ≡ true
    self [] = refl
    self (x ∷ l) = rw (eq-eqb x x refl) (self l)

-- only as many octets are compared as the mask has
pub masked-front : (s m : List ℕ) → masked (take (length m) s) m ≡ masked s m
unfolding masked
masked-front [] [] = refl
masked-front [] (y ∷ m) = refl
masked-front (x ∷ s) [] = refl
masked-front (x ∷ s) (y ∷ m) = ap (λ (l : List ℕ). bit_and x y ∷ l) (masked-front s m)

bits-take : (n : ℕ) (s : List ℕ) → bits_of s ≡ bits_of (take n s) ++ bits_of (drop n s)
unfolding bits_of
bits-take zero s = refl
bits-take (suc n) [] = refl
bits-take (suc n) (x ∷ s) =
    ap (λ (l : Bits). unpacked 8 x ++ l) (bits-take n s)
    ∙ sym (append_assoc (unpacked 8 x) (bits_of (take n s)) (bits_of (drop n s)))

-- a beginning that lies in the front of a list
begins-front : (p l m : Bits) → length p ≤ length l → BeginningOf p l ↔ BeginningOf p (l ++ m)
begins-front p l m h = (
  λ (q, e). (q ++ m, sym (append_assoc p q m) ∙ ap (λ (x : Bits). x ++ m) e),
  λ (q, e).
      let f : take (length p) l ≡ p =
      sym (take-append-le (length p) l m h) ∙ ap (take (length p)) (sym e) ∙ take-append_seam p q in
      (drop (length p) l, ap (λ (x : Bits). x ++ drop (length p) l) (sym f) ∙ take-append-drop (length p) l),
)

pub answers-begins : (i : List ℕ) (n : ℕ) (p : Bits) → allowed_identity i ≡ true → n ≤ width → length p ≤ 8 * n
    → (answers_scan i (packed n (ones (length p))) (packed n p) ≡ true) ↔ BeginningOf p (bits_of (padded i))
unfolding answers_scan
answers-begins i n p a h k = (there, back)
  where
    long : length (padded i) ≡ width
    long = length-padded i (allowed-parts i a).most

    size : length (take n (padded i)) ≡ n
    size = length-take-le n (padded i) (omega (arith, long))

    cut : masked (padded i) (packed n (ones (length p))) ≡ masked (take n (padded i)) (packed n (ones (length p)))
    cut =
        sym (masked-front (padded i) (packed n (ones (length p))))
        ∙ ap (λ (j : ℕ). masked (take j (padded i)) (packed n (ones (length p)))) (length-packed n (ones (length p)))

    law : masked (take n (padded i)) (packed n (ones (length p))) ≡ packed n p ↔ BeginningOf p (bits_of (take n (padded i)))
    law =
        subst
        (λ (j : ℕ).
        masked (take n (padded i)) (packed j (ones (length p))) ≡ packed j p ↔ BeginningOf p (bits_of (take n (padded i))))
        size
        (masked-begins (take n (padded i)) p
        (octets-take n (padded i) (padded-octets i (printable-octets i (allowed-parts i a).plain)))
        (omega (arith, size)))

    whole : BeginningOf p (bits_of (take n (padded i))) ↔ BeginningOf p (bits_of (padded i))
    whole =
        rw (bits-take n (padded i))
        (begins-front p (bits_of (take n (padded i))) (bits_of (drop n (padded i)))
        (omega (arith, length-bits (take n (padded i)), size)))

    there : same (masked (padded i) (packed n (ones (length p)))) (packed n p) ≡ true → BeginningOf p (bits_of (padded i))
    there e = whole.0 (law.0 (sym cut ∙ same-is _ _ e))

    back : BeginningOf p (bits_of (padded i)) → same (masked (padded i) (packed n (ones (length p)))) (packed n p) ≡ true
    back b = is_same _ _ (cut ∙ law.1 (whole.1 b))
