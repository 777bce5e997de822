-- An identity padded, a row under a mask, and the end of a row: by a loop, octet by octet. Assumes nothing.
use mathlib.Core.Path.{◌≡◌, refl, sym, ap, ◌∙◌}
use mathlib.Core.Bool.{Bool, true, false, ◌&&◌}
use mathlib.Core.List.{List, [], ◌∷◌, ◌++◌, append-nil}
use Prim.Native.Nat.{ℕ, ◌-◌, ◌<◌, min}
use native.Mathlib.Omega.{arith}
use borrow.Author.Tests.{leb-false}
use lib.Bits.{bit_and}
use lib.Dec.{eqb, leb}
use Rattle.std.specs.List.{list_all, zip}
use lib.ListN.{length, take, drop, replicate, drop_of_length-le, length-drop, length-take}
use lib.Seq.{length-take-le}
use borrow.Rule.Slice.PartMut.{put_mid}
use Rattle.octets.proofs.Takes.{take_within}
use Rattle.identity.specs.Bits.{masked}
use Rattle.identity.specs.Identity.{width, blank, padded, same}
use Rattle.std.specs.Prelude.{bytes_eq}
use Rattle.compare.proofs.Laws.{same_pointwise}
use Rattle.identity.proofs.Scans.{same-is}
use Rattle.xid.specs.Match.{rightmost, ends_with}

-- ---- under a mask

pub length-masked : (s m : List ℕ) → length (masked s m) ≡ min (length s) (length m)
unfolding masked
length-masked [] [] = refl
length-masked [] (y ∷ m) = omega arith
length-masked (x ∷ s) [] = omega arith
length-masked (x ∷ s) (y ∷ m) = omega (arith, length-masked s m)

-- octet by octet, where the value is as long
pub masked-zip : (s m b : List ℕ) → length b ≡ min (length s) (length m)
    → list_all (λ (p : (ℕ × ℕ) × ℕ). eqb (bit_and p.0.0 p.0.1) p.1) (zip (zip s m) b) ≡ same (masked s m) b
unfolding same masked
masked-zip [] m [] e = refl
masked-zip [] m (z ∷ b) e = let no : ⊥ = omega arith in absurd no
masked-zip (x ∷ s) [] [] e = refl
masked-zip (x ∷ s) [] (z ∷ b) e = let no : ⊥ = omega arith in absurd no
masked-zip (x ∷ s) (y ∷ m) [] e = let no : ⊥ = omega arith in absurd no
masked-zip (x ∷ s) (y ∷ m) (z ∷ b) e =
    ap (λ (t : Bool). eqb (bit_and x y) z && t) (masked-zip s m b (omega (arith, e)))

-- and where it is not
pub masked-differ : (s m b : List ℕ) → (length b ≡ min (length s) (length m) → ⊥) → false ≡ same (masked s m) b
masked-differ s m b n = go (same (masked s m) b) refl
  where
    go : (t : Bool) → same (masked s m) b ≡ t → false ≡ t
    go true e = absurd (n (ap length (sym (same-is (masked s m) b e)) ∙ length-masked s m))
    go false e = refl

-- ---- the right-most octets

pub ends_pointwise : (s t : List ℕ) → bytes_eq t (rightmost (length t) s) ≡ ends_with s t
unfolding ends_with
ends_pointwise s t = same_pointwise t (rightmost (length t) s) ∙ go (leb (length t) (length s)) refl
  where
    longer : (b : Bool) → length s < length t → same t (rightmost (length t) s) ≡ b → b ≡ false
    longer true h e =
        let long = ap length (same-is t (rightmost (length t) s) e) ∙ length-drop (length s - length t) s in
        let no : ⊥ = omega arith in
        absurd no
    longer false h e = refl

    go : (b : Bool) → leb (length t) (length s) ≡ b
        → same t (rightmost (length t) s) ≡ b && same t (rightmost (length t) s)
    go true e = refl
    go false e = longer _ (leb-false (length t) (length s) e) refl

-- ---- padded with 0x20 to 19

-- the octets from n on are blanks now
pub padded-is : (octets filled : List ℕ) (len n : ℕ) → length octets ≡ width → n ≡ min len width
    → filled ≡ replicate (length (take (width - n) (drop n octets))) blank
    → put_mid n (width - n) octets filled ≡ padded (take len octets)
unfolding padded
padded-is octets filled len n l e f =
    let long : length (take (width - n) (drop n octets)) ≡ width - n = length-take-le (width - n) (drop n octets) (omega (arith, length-drop n octets)) in
    let own : take n octets ≡ take len octets = rw e (take_within len width octets (omega arith)) in
    let short : width - length (take len octets) ≡ width - n = rw length-take (omega arith) in
    let gone : drop (width - n) (drop n octets) ≡ [] = drop_of_length-le (drop n octets) (omega (arith, length-drop n octets)) in
    rw (f, long, own, short, gone) (ap (λ (r : List ℕ). take len octets ++ r) (append-nil _))
