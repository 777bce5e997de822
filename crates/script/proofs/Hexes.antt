-- The digits of HEX, both ways: "digits `0-9a-f` (upper case is read, lower case is written)". Assumes nothing.
--   HexDigit c v == the character c is a hex digit of the value v
use mathlib.Core.Path.{◌≡◌, refl, ap}
use mathlib.Core.Bool.{Bool, true, false, cond}
use mathlib.Core.Logic.{◌↔◌, ◌⊎◌, inl, inr, ⊎_elim}
use Rattle.std.specs.Prelude.{Some, None}
use Prim.Native.Nat.{ℕ, ◌+◌, ◌-◌, ◌<◌, ◌≤◌}
use Prim.Native.Char.{code}
use native.Mathlib.Omega.{arith}
use borrow.Author.Tests.{leb-true, le-leb, lt-leb}
use lib.Dec.{leb}
use Rattle.octets.proofs.Words.{and_parts}
use Rattle.script.specs.Values.{is_from_to, hex_digit}

pub between : (least most c : ℕ) → is_from_to least most c ≡ true ↔ (least ≤ c) × (c ≤ most)
between least most c = (
  λ e. let (a, b) = and_parts (leb least c) (leb c most) e in (leb-true least c a, leb-true c most b),
  λ (h, k). rw (le-leb least c h, le-leb c most k),
)

abbrev pub HexDigit : ℕ → ℕ → Type 0
HexDigit c v =
    ((code "0" ≤ c) × (c ≤ code "9") × (c ≡ code "0" + v))
    ⊎ (((code "a" ≤ c) × (c ≤ code "f") × (c + 10 ≡ code "a" + v))
    ⊎ ((code "A" ≤ c) × (c ≤ code "F") × (c + 10 ≡ code "A" + v)))

module _ (c : ℕ) where
  digit-is : {v : ℕ} → HexDigit c v → (hex_digit c ≡ Some v) × (v < 16)
  unfolding hex_digit
  digit-is {v} =
      ⊎_elim (λ (h, k, e). (rw (le-leb 48 c h, le-leb c 57 k) (ap Some (omega (arith, h, k, e))), omega (arith, h, k, e)))
      (⊎_elim
      (λ (h, k, e). (
        rw (lt-leb c 57 (omega (arith, h)), le-leb 48 c (omega (arith, h)), le-leb 97 c h, le-leb c 102 k)
            (ap Some (omega (arith, h, k, e))),
        omega (arith, h, k, e),
      ))
      (λ (h, k, e). (
        rw (
          le-leb 48 c (omega (arith, h)),
          lt-leb c 57 (omega (arith, h)),
          lt-leb 97 c (omega (arith, k)),
          le-leb 65 c h,
          le-leb c 70 k,
        ) (ap Some (omega (arith, h, k, e))),
        omega (arith, h, k, e),
      )))

  -- of any character: a digit, or none
  digit_or : ((v : ℕ) × HexDigit c v) ⊎ (hex_digit c ≡ None)
  unfolding hex_digit
  digit_or = one (is_from_to 48 57 c) refl
    where
      three : (t : Bool) → is_from_to 65 70 c ≡ t → ((v : ℕ) × HexDigit c v) ⊎ (cond t (Some (c - 65 + 10)) None ≡ None)
      three true e = let (h, k) = (between 65 70 c).0 e in inl (c - 65 + 10, inr (inr (h, k, omega (arith, h))))
      three false e = inr refl

      two : (t : Bool) → is_from_to 97 102 c ≡ t
          → ((v : ℕ) × HexDigit c v) ⊎ (cond t (Some (c - 97 + 10)) (cond (is_from_to 65 70 c) (Some (c - 65 + 10)) None) ≡ None)
      two true e = let (h, k) = (between 97 102 c).0 e in inl (c - 97 + 10, inr (inl (h, k, omega (arith, h))))
      two false e = three (is_from_to 65 70 c) refl

      one : (t : Bool) → is_from_to 48 57 c ≡ t
          → ((v : ℕ) × HexDigit c v)
          ⊎ (cond t (Some (c - 48))
          (cond (is_from_to 97 102 c) (Some (c - 97 + 10)) (cond (is_from_to 65 70 c) (Some (c - 65 + 10)) None)) ≡ None)
      one true e = let (h, k) = (between 48 57 c).0 e in inl (c - 48, inl (h, k, omega (arith, h)))
      one false e = two (is_from_to 97 102 c) refl

  pub digit-exactly : (v : ℕ) → (hex_digit c ≡ Some v) × (v < 16) ↔ HexDigit c v
  digit-exactly v = (
    λ (e, h). ⊎_elim
        (λ (u, d). let i : hex_digit c ≡ Some u = (digit-is d).0 in let same : u ≡ v = cc in rw same at d)
        (λ (none : hex_digit c ≡ None). cc) digit_or,
    digit-is,
  )

  pub digit-none : hex_digit c ≡ None ↔ ((v : ℕ) → HexDigit c v → ⊥)
  digit-none = (
    λ e v d. let i : hex_digit c ≡ Some v = (digit-is d).0 in cc,
    λ h. ⊎_elim (λ (v, d). absurd (h v d)) (λ e. e) digit_or,
  )
