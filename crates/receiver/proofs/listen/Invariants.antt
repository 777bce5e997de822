-- `receiver::listen` meets its promise: up to the place where it stands nothing was handed out. Assumes nothing.
use mathlib.Core.Path.{◌≡◌}
use Prim.Native.Nat.{◌-◌}
use lib.ListN.{length}
use Rattle.receiver.specs.Held.{held_of}
use Rattle.receiver.specs.Pieces.{Passes}
use Rattle.receiver.proofs.listen.Given as goal

abbrev pub invariant-loop-at : goal.invariant-loop-at
invariant-loop-at l =
    Passes (held_of l.initial.receiver l.initial.store) l.run l.at (held_of l.receiver l.store) × (l.out ≡ l.initial.out)

abbrev pub decreases-loop-at : goal.decreases-loop-at
decreases-loop-at l = length l.run - l.at
