-- A table's rule, at each of its entries, from one test that antt computes over the whole table; and an octet worked
-- by such a table. Over the number of bits, so that a table of another size cites the same laws. Assumes nothing.
use mathlib.Core.Path.{◌≡◌, sym, ap, ◌∙◌}
use mathlib.Core.Bool.{Bool}
use mathlib.Core.List.{List}
use mathlib.Core.HLevel.{×_prop, Π_prop, →_prop}
use mathlib.Core.Logic.{◌⊎◌, ⊎_elim, ∥∥₁_elim}
use Prim.Native.Nat.{ℕ, ◌*◌, ◌/◌, ◌%◌, ◌^◌, ◌<◌, ◌≤◌}
use native.Mathlib.Nat.{ℕ_set, mod-lt, one-mul}
use native.Mathlib.Omega.{arith}
use lib.Bits.{bit_xor}
use lib.Dec.{T, eqb, eqb→eq, lit<}
use lib.ListN.{length, get_or}
use lib.Pow.{pow_pos, shl_exact}
use Rattle.octets.proofs.Every.{every, at}
use Rattle.fcs.specs.Check.{bit_steps, Remainders}
use Rattle.fcs.proofs.Division.{by-table}

-- the entry x of a table for k bits is right
abbrev pub right : ℕ → ℕ → ℕ → Bool
right k x entry = eqb entry (bit_steps k x)

pub rule : (k : ℕ) (t : List ℕ) → length t ≡ 2 ^ k → T (every (right k) 0 t) → Remainders k t
unfolding Remainders
rule k t n passed =
    (n, λ x h. eqb→eq (get_or t x 0) (bit_steps k x) (at (right k) t passed x (rw n h)))

pub entry-below : (k : ℕ) (t : List ℕ) → Remainders k t → (x : ℕ) → x % 2 ^ k < length t
unfolding Remainders
entry-below k t r x = rw r.0 (mod-lt x (pow_pos k))

-- k bits on: a shift, and the entry of the k low bits
pub by-entry : (k : ℕ) (t : List ℕ) → Remainders k t
    → (x : ℕ) → bit_xor (x / 2 ^ k) (get_or t (x % 2 ^ k) 0) ≡ bit_steps k x
unfolding Remainders
by-entry k t r x = ap (bit_xor (x / 2 ^ k)) (r.1 (x % 2 ^ k) (mod-lt x (pow_pos k))) ∙ sym (by-table k x)

-- the low bits, as a number of 16 bits masks them
pub low_bits : (k x : ℕ) → k ≤ 8 → x % (1 * 2 ^ k % 2 ^ 16) ≡ x % 2 ^ k
low_bits k x h = ap (λ (m : ℕ). x % m) (shl_exact 1 k 16 (lit< tt) (omega arith) ∙ one-mul (2 ^ k))

-- a table is right in one way
right_prop : (k : ℕ) (t : List ℕ) → IsProp (Remainders k t)
unfolding Remainders
right_prop k t = ×_prop (ℕ_set _ _) (Π_prop (λ x. →_prop (ℕ_set _ _)))

-- of the two tables, the number of entries tells which it is
pub sixteen : (t : List ℕ) → ∥ Remainders 4 t ⊎ Remainders 8 t ∥₁ → length t ≡ 16 → Remainders 4 t
unfolding Remainders
sixteen t one e =
    ∥∥₁_elim one (right_prop 4 t) (⊎_elim (λ r. r) (λ r. let long : length t ≡ 256 = r.0 in absurd (omega arith)))

pub not-sixteen : (t : List ℕ) → ∥ Remainders 4 t ⊎ Remainders 8 t ∥₁ → (length t ≡ 16 → ⊥) → Remainders 8 t
unfolding Remainders
not-sixteen t one d = ∥∥₁_elim one (right_prop 8 t) (⊎_elim (λ r. absurd (d r.0)) (λ r. r))

-- and what it gives for eight bits is the same: two halves, the low one first, or all at once
pub two-halves : (x : ℕ) {y z : ℕ} → y ≡ bit_steps 4 x → z ≡ bit_steps 4 y → z ≡ bit_steps 8 x
unfolding bit_steps
two-halves x e f = f ∙ ap (bit_steps 4) e
