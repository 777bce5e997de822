-- The next beginning, found in a row of bits: trailing ones dropped, and the last zero made a one. Assumes nothing.
use mathlib.Core.Path.{◌≡◌, refl, sym, ap, ◌∙◌}
use mathlib.Core.Bool.{Bool, true, false, not}
use Prim.Native.Nat.{ℕ, zero, suc, ◌-◌, ◌≤◌, ◌<◌}
use native.Mathlib.Omega.{arith}
use lib.ListN.{length, take, get_or}
use lib.Seq.{take-suc}
use Rattle.identity.specs.Bits.{Bits}
use Rattle.walk.specs.Beginnings.{then}
use Rattle.walk.specs.Machine.{next, zero_half}
use Rattle.walk.proofs.Halves.{next-zero, next_one, zero_half-then}
use Rattle.scan.specs.Steps.{next_at}

-- the first n bits, by their last one
last_bit : (row : Bits) (n : ℕ) (b : Bool) → n < length row → get_or row (suc n - 1) false ≡ b
    → take (suc n) row ≡ then (take n row) b
last_bit row n b h e =
    let k : suc n - 1 ≡ n = omega arith in
    take-suc row n false h ∙ ap (then (take n row)) (rw k at e)

pub climb-zero : (row : Bits) (n : ℕ) → 0 < n → n ≤ length row → get_or row (n - 1) false ≡ false
    → next (take n row) ≡ next_at row n
unfolding next_at
climb-zero row zero p h e = absurd (omega arith)
climb-zero row (suc m) p h e = ap next (last_bit row m false h e) ∙ next-zero (take m row)

pub climb-one : (row : Bits) (n : ℕ) → 0 < n → n ≤ length row → get_or row (n - 1) false ≡ true
    → next (take n row) ≡ next (take (n - 1) row)
climb-one row zero p h e = absurd (omega arith)
climb-one row (suc m) p h e =
    let k : suc m - 1 ≡ m = omega arith in rw k (ap next (last_bit row m true h e) ∙ next_one (take m row))

pub climb-none : (row : Bits) (n : ℕ) → n ≡ 0 → next (take n row) ≡ next_at row n
unfolding next next_at
climb-none row n e = rw e

pub zero-half-at : (row : Bits) (n : ℕ) → 0 < n → n ≤ length row → not (get_or row (n - 1) false) ≡ zero_half (take n row)
zero-half-at row zero p h = absurd (omega arith)
zero-half-at row (suc m) p h =
    sym (ap zero_half (last_bit row m (get_or row (suc m - 1) false) h refl) ∙ zero_half-then (take m row) _)

pub zero-half-none : (row : Bits) (n : ℕ) → n ≡ 0 → false ≡ zero_half (take n row)
unfolding zero_half
zero-half-none row n e = rw e
