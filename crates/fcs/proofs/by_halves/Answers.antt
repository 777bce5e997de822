-- `fcs::by_halves` meets its promise: the constant table passes the test at each of its 16 entries, which antt computes.
-- Assumes nothing.
use mathlib.Core.Path.{refl}
use mathlib.Core.Logic.{inl}
use Rattle.fcs.specs.Check.{bit_step, bit_steps}
use Rattle.fcs.proofs.Rule.{rule}
use Rattle.fcs.proofs.by_halves.Goals as goal

pub invariant_of-run_by_two : goal.invariant_of-run_by_two
unfolding bit_steps bit_step
invariant_of-run_by_two c = record { right = ∣ inl (rule 4 _ refl tt) ∣₁ }
