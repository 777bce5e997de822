-- `fcs::RemainderTable::run` meets its promise: the octets that are left, from the register as it is, give what all gave from the
-- start. Assumes nothing.
use mathlib.Core.Path.{◌≡◌}
use Prim.Native.Nat.{◌*◌}
use lib.ListN.{drop}
use Rattle.fcs.specs.Check.{register_after}
use Rattle.fcs.proofs.RemainderTable.run.Given as goal

abbrev pub invariant-loop-a : goal.invariant-loop-a
invariant-loop-a l = register_after l.r (drop (l.a-index * 8) l.s) ≡ register_after l.register l.s
