-- The list of a record: rows of 19 octets, one behind the other. Assumes nothing.
use mathlib.Core.Path.{◌≡◌, refl, sym, ap, ap₂, ◌∙◌}
use mathlib.Core.List.{List, [], ◌∷◌, ◌++◌, append_assoc, append-nil}
use Prim.Native.Nat.{ℕ, zero, suc, ◌+◌, ◌*◌, ◌≤◌}
use native.Mathlib.Omega.{arith}
use lib.ListN.{length, take, drop, length-append}
use lib.Seq.{length-take-le, take-add, take_at, drop_at, sets, sets-eq}
use Rattle.identity.specs.Identity.{width}
use Rattle.scan.specs.Record.{rows_of, flat, ◌onto◌}

pub flat_rows : (n : ℕ) (l : List ℕ) → flat (rows_of n l) ≡ take (width * n) l
unfolding flat rows_of
flat_rows zero l = refl
flat_rows (suc n) l =
    let e : width * suc n ≡ width + width * n = omega arith in
    rw (flat_rows n (drop width l), e, take-add width (width * n) l)

pub length-rows : (n : ℕ) (l : List ℕ) → length (rows_of n l) ≡ n
unfolding rows_of
length-rows zero l = refl
length-rows (suc n) l = ap suc (length-rows n (drop width l))

-- what a list begins with, put onto it, changes nothing
pub onto-own : {A : Type 0} (k : ℕ) (l : List A) → l ≡ (take k l onto l)
onto-own zero l = refl
onto-own (suc k) [] = refl
onto-own (suc k) (x ∷ l) = ap (λ t. x ∷ t) (onto-own k l)

pub rows_same : (n : ℕ) (l : List ℕ) → l ≡ (flat (rows_of n l) onto l)
rows_same n l = rw (flat_rows n l) (onto-own (width * n) l)

flat_append : (xs : List (List ℕ)) (y : List ℕ) → flat (xs ++ (y ∷ [])) ≡ flat xs ++ y
unfolding flat
flat_append [] y = append-nil y
flat_append (x ∷ xs) y = ap (λ (z : List ℕ). x ++ z) (flat_append xs y) ∙ sym (append_assoc x (flat xs) y)

-- one identity more, behind the n that are there
pub rows_more : (n : ℕ) (l y : List ℕ) → width * n + length y ≤ length l
    → sets l (width * n) y ≡ (flat (rows_of n l ++ (y ∷ [])) onto l)
rows_more n l y h =
    let k : length (take (width * n) l) ≡ width * n = length-take-le (width * n) l (omega arith) in
    sets-eq y l (width * n) h
    ∙ rw (flat_append (rows_of n l) y, flat_rows n l, length-append (take (width * n) l) y, k)

pub length_more : (n : ℕ) (l y : List ℕ) → n + 1 ≡ length (rows_of n l ++ (y ∷ []))
length_more n l y = omega (arith, length-append (rows_of n l) (y ∷ []), length-rows n l)

-- each row has 19 octets
abbrev pub Wide : List (List ℕ) → Type 0
Wide [] = Unit {0}
Wide (x ∷ xs) = (length x ≡ width) × Wide xs

pub wide-more : (xs : List (List ℕ)) (y : List ℕ) → Wide xs → length y ≡ width → Wide (xs ++ (y ∷ []))
wide-more [] y h e = (e, tt)
wide-more (x ∷ xs) y h e = (h.0, wide-more xs y h.1 e)

pub rows-flat : (xs : List (List ℕ)) (l : List ℕ) → Wide xs → rows_of (length xs) (flat xs ++ l) ≡ xs
unfolding rows_of flat
rows-flat [] l h = refl
rows-flat (x ∷ xs) l h =
    let e : (x ++ flat xs) ++ l ≡ x ++ (flat xs ++ l) = append_assoc x (flat xs) l in
    ap₂ (λ (a : List ℕ) (b : List (List ℕ)). a ∷ b) (ap (take width) e ∙ take_at x (flat xs ++ l) width h.0)
    (ap (λ (t : List ℕ). rows_of (length xs) (drop width t)) e
    ∙ ap (rows_of (length xs)) (drop_at x (flat xs ++ l) width h.0) ∙ rows-flat xs l h.1)
