-- What a word stands for: digits of HEX, their octets, and numbers, read by a loop that stops counting at a million.
-- Assumes nothing.
use Rattle.std.proofs.Common.{◌≡◌, Bool, true, false, cond, List, [], ◌∷◌, ◌++◌, Option, Some, None, Result, Ok, Err, ℕ, ◌+◌, ◌-◌, ◌*◌, ◌<◌, ◌≤◌, min, length, get_or, take, drop, refl, sym, ap, ◌∙◌, arith, tests, eqb, leb}
use Rattle.std.specs.Prelude.{SomeIff}
use Rattle.std.specs.Char.{digit_value}
use borrow.Author.Tests.{lt-leb, ne_eqb, eqb-true, leb-true, leb-false}
use lib.ListN.{drop_of_length-le}
use lib.Pointwise.{pointwise}
use Rattle.octets.proofs.Rest.{rest}
use Rattle.script.specs.Values.{is_from_to, hex_digit, octet_from, octet_by, octet_of, octet_then, pairs_of, all_digits, numeral, decimal}
use Rattle.script.specs.Values.{is_negative, digits_of, decimal_of, ranged, number_by}
use Rattle.script.specs.declared.Fault.{Fault}
use Rattle.script.specs.declared.Fault.TheVariants.{Hex, Number}

-- ---- HEX

-- std's value of a digit is the definition's
pub digit-is : (c : ℕ) (r : Option ℕ) → SomeIff r (digit_value c < 16) (digit_value c) → r ≡ hex_digit c
unfolding hex_digit
digit-is c None h = grind (arith, tests)
digit-is c (Some v) h = grind (arith, tests)

pub digit_below : (c v : ℕ) → hex_digit c ≡ Some v → v < 16
unfolding hex_digit
digit_below c v e = grind (arith, tests)

-- no other fault comes of it
pub octet-fault : (w : List ℕ) (f : Fault) → octet_of w ≡ Err f → f ≡ Hex
unfolding octet_of octet_by
octet-fault w f = go (eqb (length w) 2) (hex_digit (get_or w 0 0)) (hex_digit (get_or w 1 0))
  where
    go : (t : Bool) (h l : Option ℕ) → cond t (octet_from h l) (Err Hex) ≡ Err f → f ≡ Hex
    go false h l e = cc
    go true None l e = cc
    go true (Some h) None e = cc
    go true (Some h) (Some l) e = cc

pub octet-two : (w : List ℕ) (o : ℕ) → octet_of w ≡ Ok o → length w ≡ 2
unfolding octet_of
octet-two w o = go (eqb (length w) 2) refl
  where
    go : (t : Bool) → eqb (length w) 2 ≡ t → cond t (octet_by (get_or w 0 0) (get_or w 1 0)) (Err Hex) ≡ Ok o → length w ≡ 2
    go false i e = cc
    go true i e = eqb-true (length w) 2 i

-- two digits, or the one that is left, and those behind them
pub pairs-front : (x t r : List ℕ) → r ≡ x ++ t → length x ≡ min 2 (length r) → 0 < length r
    → pairs_of r ≡ octet_then (octet_of x) (pairs_of t)
unfolding pairs_of octet_of octet_then
pairs-front [] t r e l p = let no : ⊥ = omega (arith, l) in absurd no
pairs-front (h ∷ []) [] r e l p = rw e
pairs-front (h ∷ []) (y ∷ t) r e l p = let no : ⊥ = omega (arith, l, ap length e) in absurd no
pairs-front (h ∷ d ∷ []) t r e l p = rw e
pairs-front (h ∷ d ∷ x ∷ s) t r e l p = let no : ⊥ = omega (arith, l) in absurd no

-- ---- digits read from n on, for a loop that goes through s by i

abbrev pub decimal_from : ℕ → List ℕ → Result ℕ Fault
decimal_from n s = cond (all_digits s) (Ok (min (decimal n s) 1000000)) (Err Number)

-- what is as large up to a million stays so with the same digits behind it
capped : (m k : ℕ) (s : List ℕ) → min m 1000000 ≡ min k 1000000
    → min (decimal m s) 1000000 ≡ min (decimal k s) 1000000
unfolding decimal
capped m k [] e = e
capped m k (c ∷ s) e = capped (10 * m + (c - 48)) (10 * k + (c - 48)) s (omega (arith, e))

pub decimal-start : (s : List ℕ) → (length s ≡ 0 → ⊥) → decimal_from 0 s ≡ decimal_of s
unfolding decimal_of numeral
decimal-start s n = rw (ne_eqb (length s) 0 n)

module _ (s : List ℕ) (n i : ℕ) {w : Result ℕ Fault} (v : decimal_from n (drop i s) ≡ w) where
  pub decimal-other : i < length s → is_from_to 48 57 (get_or s i 0) ≡ false → Err Number ≡ w
  unfolding all_digits
  decimal-other h k = rw (rest s i h, k) at v

  pub decimal-more : {m : ℕ} → i < length s → is_from_to 48 57 (get_or s i 0) ≡ true
      → m ≡ min (10 * n + (get_or s i 0 - 48)) 1000000 → decimal_from m (drop (i + 1) s) ≡ w
  unfolding all_digits decimal
  decimal-more {m = m} h j e =
      ap (λ (x : ℕ). cond (all_digits (drop (i + 1) s)) (Ok x) (Err Number))
      (capped m (10 * n + (get_or s i 0 - 48)) (drop (i + 1) s) (omega (arith, e)))
      ∙ (rw (rest s i h, j) at v)

  pub decimal-done : length s ≤ i → n ≤ 1000000 → Ok n ≡ w
  unfolding all_digits decimal
  decimal-done h k =
      let m : min n 1000000 ≡ n = omega arith in
      sym (ap Ok m) ∙ (rw (drop_of_length-le s h) at v)

-- ---- numbers in their range

ranged-capped : (negative : Bool) (most : ℕ) (f : Fault) (n : ℕ) → most < 1000000
    → ranged negative most f (min n 1000000) ≡ ranged negative most f n
unfolding ranged
ranged-capped negative most f n b = go (leb n most) refl
  where
    go : (t : Bool) → leb n most ≡ t → ranged negative most f (min n 1000000) ≡ ranged negative most f n
    go true e =
        let h = leb-true n most e in
        let m : min n 1000000 ≡ n = omega arith in
        rw m
    go false e =
        let h = leb-false n most e in
        rw (e, lt-leb (min n 1000000) most (omega arith))

-- a word that begins with `-`, as `strip_prefix` says it
pub sign-is : (w : List ℕ) → pointwise eqb (take 1 w) (45 ∷ []) ≡ is_negative w
unfolding is_negative
sign-is [] = refl
sign-is (x ∷ w) = grind arith

-- a number that is read up to a million, and bounds below that
module _ (below above : ℕ) (f : Fault) (w : List ℕ) where
  read-none : {g : Fault} → decimal_of (digits_of w) ≡ Err g → Err g ≡ number_by below above f w
  unfolding number_by decimal_of
  read-none {g} = go (numeral (digits_of w)) refl
    where
      go : (t : Bool) → numeral (digits_of w) ≡ t
          → cond t (Ok (min (decimal 0 (digits_of w)) 1000000)) (Err Number) ≡ Err g → Err g ≡ number_by below above f w
      go true e k = cc
      go false e k = rw e (sym k)

  read-ranged : {n : ℕ} → decimal_of (digits_of w) ≡ Ok n → cond (is_negative w) below above < 1000000
      → ranged (is_negative w) (cond (is_negative w) below above) f n ≡ number_by below above f w
  unfolding number_by decimal_of
  read-ranged {n} h b = go (numeral (digits_of w)) refl h
    where
      go : (t : Bool) → numeral (digits_of w) ≡ t
          → cond t (Ok (min (decimal 0 (digits_of w)) 1000000)) (Err Number) ≡ Ok n
          → ranged (is_negative w) (cond (is_negative w) below above) f n ≡ number_by below above f w
      go true e k =
          let m : min (decimal 0 (digits_of w)) 1000000 ≡ n = cc in
          rw (e, ← m) (ranged-capped (is_negative w) _ f (decimal 0 (digits_of w)) b)
      go false e k = cc

  module _ (t : is_negative w ≡ true) {s : List ℕ} (d : s ≡ drop 1 w) where
    pub signed-none : {g : Fault} → Err g ≡ decimal_of s → Err g ≡ number_by below above f w
    unfolding digits_of
    signed-none e = read-none (rw (t, ← d) (sym e))

    pub signed-ranged : {n : ℕ} → Ok n ≡ decimal_of s → below < 1000000 → ranged true below f n ≡ number_by below above f w
    unfolding digits_of
    signed-ranged {n} e b = rw t at (read-ranged {n = n} (rw (t, ← d) (sym e)) (rw t b))

  module _ (t : is_negative w ≡ false) where
    pub plain-none : {g : Fault} → Err g ≡ decimal_of w → Err g ≡ number_by below above f w
    unfolding digits_of
    plain-none e = read-none (rw t (sym e))

    pub plain-ranged : {n : ℕ} → Ok n ≡ decimal_of w → above < 1000000 → ranged false above f n ≡ number_by below above f w
    unfolding digits_of
    plain-ranged {n} e b = rw t at (read-ranged {n = n} (rw t (sym e)) (rw t b))
