-- `mast::sweep` meets its promise: what the probes that are left come to is what all of them come to. Assumes nothing.
use Prim.Native.Nat.{◌-◌}
use Rattle.mast.proofs.Rounds.{Sweeping}
use Rattle.mast.proofs.sweep.Given as goal

abbrev pub invariant-loop : goal.invariant-loop
invariant-loop l = Sweeping (l.limit - l.counter) l.scan l.row l.initial.row l.limit
