-- Exclusive or: what the library leaves out. Assumes nothing.
use mathlib.Core.Path.{◌≡◌, refl, sym, ap, ap₂, ◌∙◌}
use Prim.Native.Nat.{ℕ, zero, suc, ◌+◌, ◌*◌, ◌/◌, ◌%◌, ◌<◌}
use native.Mathlib.Nat.{mod-lt, not-suc-le-zero, le_of_suc-le-suc}
use lib.Arith.{bin_ind}
use lib.Pow.{pow_pos}
use lib.Bits.{bit_xor, differ, xor_step, xor_shr, xor_mod, xor_zero_l, xor_zero_r, xor_self}

-- what holds of 0 and of 1 holds of each bit
pub on_bit : (P : ℕ → Type 0) → P 0 → P 1 → (x : ℕ) → x < 2 → P x
on_bit P p q zero h = p
on_bit P p q (suc zero) h = q
on_bit P p q (suc (suc x)) h = absurd (not-suc-le-zero (le_of_suc-le-suc (le_of_suc-le-suc h)))

pub bit : (n : ℕ) → n % 2 < 2
bit n = mod-lt n (pow_pos 1)

digit_assoc : (x y z : ℕ) → x < 2 → y < 2 → z < 2 → differ (bit_xor x y) z ≡ differ x (bit_xor y z)
digit_assoc x y z hx hy hz =
    on_bit (λ (x : ℕ). differ (bit_xor x y) z ≡ differ x (bit_xor y z))
    (ap (λ (n : ℕ). differ n z) (xor_zero_l y)
    ∙ on_bit (λ (y : ℕ). differ y z ≡ bit_xor y z) (sym (xor_zero_l z))
    (on_bit (λ (z : ℕ). differ 1 z ≡ bit_xor 1 z) refl refl z hz) y hy)
    (on_bit (λ (y : ℕ). differ (bit_xor 1 y) z ≡ differ 1 (bit_xor y z)) (ap (differ 1) (sym (xor_zero_l z)))
    (on_bit (λ (z : ℕ). differ (bit_xor 1 1) z ≡ differ 1 (bit_xor 1 z)) refl refl z hz) y hy)
    x hx

pub xor_assoc : (a b c : ℕ) → bit_xor (bit_xor a b) c ≡ bit_xor a (bit_xor b c)
xor_assoc a =
    bin_ind (λ (n : ℕ). (b c : ℕ) → bit_xor (bit_xor n b) c ≡ bit_xor n (bit_xor b c))
    (λ b c. ap (λ (x : ℕ). bit_xor x c) (xor_zero_l b) ∙ sym (xor_zero_l (bit_xor b c)))
    (λ n ih b c. xor_step (bit_xor n b) c
    ∙ ap₂ (λ (x y : ℕ). bit_xor x (c / 2) * 2 + differ y (c % 2)) (xor_shr n b 1) (xor_mod n b 1)
    ∙ ap₂ (λ (x y : ℕ). x * 2 + y) (ih (b / 2) (c / 2))
    (digit_assoc (n % 2) (b % 2) (c % 2) (bit n) (bit b) (bit c))
    ∙ sym (ap₂ (λ (x y : ℕ). bit_xor (n / 2) x * 2 + differ (n % 2) y) (xor_shr b c 1) (xor_mod b c 1))
    ∙ sym (xor_step n (bit_xor b c)))
    a

pub xor-cancel : (a b : ℕ) → bit_xor (bit_xor a b) b ≡ a
xor-cancel a b = xor_assoc a b b ∙ ap (bit_xor a) (xor_self b) ∙ xor_zero_r a

pub xor-cancel-left : (a b : ℕ) → bit_xor a (bit_xor a b) ≡ b
xor-cancel-left a b = sym (xor_assoc a a b) ∙ ap (λ (n : ℕ). bit_xor n b) (xor_self a) ∙ xor_zero_l b
