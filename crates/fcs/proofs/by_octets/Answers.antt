-- `fcs::by_octets` meets its promise: the constant table passes the test at each of its 256 entries, which antt computes.
-- Assumes nothing.
use mathlib.Core.Path.{refl}
use mathlib.Core.Logic.{inr}
use Rattle.fcs.specs.Check.{bit_step, bit_steps}
use Rattle.fcs.proofs.Rule.{rule}
use Rattle.fcs.proofs.by_octets.Goals as goal

pub invariant_of-run : goal.invariant_of-run
unfolding bit_steps bit_step
invariant_of-run c = record { right = ∣ inr (rule 8 _ refl tt) ∣₁ }
