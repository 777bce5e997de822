-- `fcs::check` meets its promise: the register after all octets, complemented. Assumes nothing.
use mathlib.Core.Path.{ap}
use Prim.Native.Nat.{ℕ}
use lib.Bits.{bit_xor}
use Rattle.fcs.specs.Check.{check_of}
use Rattle.fcs.proofs.check.Goals as goal

pub returns : goal.returns
unfolding check_of
returns c = ap (λ (x : ℕ). bit_xor x 0xFFFF) c.go_on.ensures
