-- k bit steps at once: what stands above the k low bits only moves down, so the remainder of the k low bits, from a
-- table, is enough. One law over k serves a table of any size. Assumes nothing.
use mathlib.Core.Path.{◌≡◌, refl, sym, ap, ap₂, ◌∙◌}
use Prim.Native.Nat.{ℕ, zero, suc, ◌*◌, ◌/◌, ◌%◌, ◌^◌}
use native.Mathlib.Nat.{mul-one, mod-lt}
use lib.Pow.{split, pow_pos}
use lib.Bits.{bit_xor, xor_shr, xor_mod, xor_zero_l, xor_shifted, shifted_half, shifted_even}
use Rattle.fcs.specs.Check.{polynomial, bit_step, bit_steps}
use Rattle.fcs.proofs.Exclusive.{xor_assoc}

-- as RFC 1662 writes it
pub polynomial-is : polynomial ≡ 0x8408
polynomial-is = refl

-- a number that stands k bits up comes down unchanged
pub comes_down : (k a b : ℕ) → bit_steps k (bit_xor (a * 2 ^ k) b) ≡ bit_xor a (bit_steps k b)
unfolding bit_steps bit_step
comes_down zero a b = ap (λ (x : ℕ). bit_xor x b) (mul-one a)
comes_down (suc k) a b =
    ap (bit_steps k)
    (ap₂ (λ (x y : ℕ). bit_xor x (y * polynomial))
    (xor_shr (a * 2 ^ suc k) b 1 ∙ ap (λ (x : ℕ). bit_xor x (b / 2)) (shifted_half a k))
    (xor_mod (a * 2 ^ suc k) b 1 ∙ ap (λ (x : ℕ). bit_xor x (b % 2)) (shifted_even a k) ∙ xor_zero_l (b % 2))
    ∙ xor_assoc (a * 2 ^ k) (b / 2) (b % 2 * polynomial))
    ∙ comes_down k a (bit_step b)

-- so k steps are a shift, and the remainder of the k low bits: k = 8 is the table of 256, k = 4 that of 16
pub by-table : (k x : ℕ) → bit_steps k x ≡ bit_xor (x / 2 ^ k) (bit_steps k (x % 2 ^ k))
by-table k x =
    ap (bit_steps k) (sym (split x k) ∙ sym (xor_shifted (x / 2 ^ k) k (x % 2 ^ k) (mod-lt x (pow_pos k))))
    ∙ comes_down k (x / 2 ^ k) (x % 2 ^ k)
