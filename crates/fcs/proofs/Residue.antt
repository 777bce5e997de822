-- The good-frame residue of RFC 1662: after any octets and two more, the register is 0xF0B8 exactly if these two are
-- the check of the others, low one first. Assumes nothing.
use mathlib.Core.Path.{◌≡◌, refl, sym, ap, ap₂, ◌∙◌}
use mathlib.Core.List.{List, [], ◌∷◌, ◌++◌}
use mathlib.Core.Logic.{◌↔◌}
use Prim.Native.Nat.{ℕ, zero, suc, ◌+◌, ◌*◌, ◌/◌, ◌%◌, ◌^◌, ◌<◌}
use native.Mathlib.Omega.{arith}
use lib.Dec.{lit<}
use lib.Bits.{bit_xor, xor_shr, xor_lt, xor_comm, xor_zero_l, xor_shifted}
use Rattle.octets.specs.Octets.{Octets, low_of, high_of, pair_of}
use Rattle.octets.proofs.Bounds.{pair_parts}
use Rattle.fcs.specs.Check.{polynomial, bit_step, bit_steps, octet_step, register_after, check_of, with_check, residue}
use Rattle.fcs.proofs.Division.{comes_down}
use Rattle.fcs.proofs.Exclusive.{xor_assoc, xor-cancel, xor-cancel-left, on_bit, bit}
use Rattle.fcs.proofs.Register.{step-lt, register-append, register-lt, check-lt}

-- the bit that fell out stands on top
top : (x : ℕ) → x < 2 ^ 16 → bit_step x / 2 ^ 15 ≡ x % 2
unfolding bit_step
top x h =
    let low : x / 2 / 2 ^ 15 ≡ 0 = omega arith in
    xor_shr (x / 2) (x % 2 * polynomial) 15
    ∙ ap (λ (n : ℕ). bit_xor n (x % 2 * polynomial / 2 ^ 15)) low
    ∙ xor_zero_l (x % 2 * polynomial / 2 ^ 15)
    ∙ on_bit (λ (n : ℕ). n * polynomial / 2 ^ 15 ≡ n) refl refl (x % 2) (bit x)

-- so no two registers come to the same
step-apart : (x y : ℕ) → x < 2 ^ 16 → y < 2 ^ 16 → bit_step x ≡ bit_step y → x ≡ y
unfolding bit_step
step-apart x y hx hy e =
    let odd : x % 2 ≡ y % 2 = sym (top x hx) ∙ ap (λ (n : ℕ). n / 2 ^ 15) e ∙ top y hy in
    let half : x / 2 ≡ y / 2 =
    sym (xor-cancel (x / 2) (x % 2 * polynomial))
    ∙ ap₂ (λ (m n : ℕ). bit_xor m (n * polynomial)) e odd
    ∙ xor-cancel (y / 2) (y % 2 * polynomial) in
    omega arith

steps_apart : (k x y : ℕ) → x < 2 ^ 16 → y < 2 ^ 16 → bit_steps k x ≡ bit_steps k y → x ≡ y
unfolding bit_steps
steps_apart zero x y hx hy e = e
steps_apart (suc k) x y hx hy e =
    step-apart x y hx hy (steps_apart k (bit_step x) (bit_step y) (step-lt x hx) (step-lt y hy) e)

-- two octets at once
two : (r low high : ℕ) → low < 256 → octet_step (octet_step r low) high ≡ bit_steps 16 (bit_xor r (pair_of low high))
unfolding octet_step bit_steps
two r low high h =
    let sum : high * 2 ^ 8 + low ≡ pair_of low high = omega arith in
    ap (bit_steps 8) (xor_comm (bit_steps 8 (bit_xor r low)) high ∙ sym (comes_down 8 high (bit_xor r low)))
    ∙ ap (bit_steps 16)
    (xor_comm (high * 2 ^ 8) (bit_xor r low)
    ∙ xor_assoc r low (high * 2 ^ 8)
    ∙ ap (bit_xor r) (xor_comm low (high * 2 ^ 8) ∙ xor_shifted high 8 low h ∙ sum))

all_ones : bit_steps 16 0xFFFF ≡ residue
unfolding bit_steps bit_step
all_ones = refl

module _ (s : List ℕ) (low high : ℕ) (os : Octets s) (l : low < 256) (h : high < 256) where
  after_two : register_after 0xFFFF (s ++ low ∷ high ∷ [])
      ≡ bit_steps 16 (bit_xor (register_after 0xFFFF s) (pair_of low high))
  unfolding register_after
  after_two = register-append s (low ∷ high ∷ []) 0xFFFF ∙ two (register_after 0xFFFF s) low high l

  pub residue-exactly : register_after 0xFFFF (s ++ low ∷ high ∷ []) ≡ residue ↔ check_of s ≡ pair_of low high
  unfolding check_of
  residue-exactly =
      let r : ℕ = register_after 0xFFFF s in
      let small : bit_xor r (pair_of low high) < 2 ^ 16 =
      xor_lt 16 r (pair_of low high) (register-lt s 0xFFFF (lit< tt) os) (omega arith) in (
        λ e.
            ap (bit_xor r)
            (sym
            (steps_apart 16 (bit_xor r (pair_of low high)) 0xFFFF small (lit< tt) (sym after_two ∙ e ∙ sym all_ones)))
            ∙ xor-cancel-left r (pair_of low high),
        λ e.
            after_two
            ∙ ap (bit_steps 16) (ap (bit_xor r) (sym e) ∙ xor-cancel-left r 0xFFFF)
            ∙ all_ones,
      )

-- the register after any frame with its check
pub residue-good : (s : List ℕ) → Octets s → register_after 0xFFFF (with_check s) ≡ residue
unfolding with_check
residue-good s os =
    (residue-exactly s (low_of (check_of s)) (high_of (check_of s)) os (omega arith) (omega arith)).1
    (sym (pair_parts (check_of s) (check-lt s os)))
