-- `fcs::RemainderTable::eight_on` meets its promise: the low half, then the high one; or all at once. Assumes nothing.
use native.Mathlib.Omega.{arith}
use Rattle.fcs.proofs.Rule.{sixteen, not-sixteen, two-halves}
use Rattle.fcs.proofs.RemainderTable.eight_on.Goals as goal

pub bits_on-low-requires : goal.bits_on-low-requires
bits_on-low-requires c = (omega arith, sixteen _ c.args.self.right c.if-self-eq16.true)

pub bits_on-requires : goal.bits_on-requires
bits_on-requires c = (omega arith, sixteen _ c.args.self.right c.if-self-eq16.true)

pub returns-then-self-eq16 : goal.returns-then-self-eq16
returns-then-self-eq16 c = two-halves _ c.bits_on-low.ensures c.bits_on.ensures

pub bits_on-requires-2 : goal.bits_on-requires-2
bits_on-requires-2 c = (omega arith, not-sixteen _ c.args.self.right c.if-self-eq16.false)
