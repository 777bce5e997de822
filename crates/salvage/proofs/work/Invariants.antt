-- `salvage::work` meets its promise: up to the place where it stands nothing was left out. Assumes nothing.
use Rattle.std.proofs.Common.{◌-◌, length}
use Rattle.salvage.specs.Holding.{holding_of}
use Rattle.salvage.proofs.Going.{Turns}
use Rattle.salvage.proofs.work.Given as goal

abbrev pub invariant-loop-at : goal.invariant-loop-at
invariant-loop-at l =
    Turns l.limit (holding_of l.initial.salvage l.initial.store l.initial.raw) l.run l.initial.out l.at l.put
    (holding_of l.held l.store l.raw) l.out l.left_out l.end

abbrev pub decreases-loop-at : goal.decreases-loop-at
decreases-loop-at l = length l.run - l.at
