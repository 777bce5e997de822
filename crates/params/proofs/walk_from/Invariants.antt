-- `params::walk_from` meets its promise: what is left from the cursor on comes to the same as all. The measure is what
-- is left of the length. Assumes nothing.
use mathlib.Core.Path.{◌≡◌}
use Prim.Native.Nat.{◌-◌}
use lib.ListN.{length, drop}
use Rattle.params.specs.Field.{triples_of, checked}
use Rattle.params.specs.Walk.{found_from}
use Rattle.params.proofs.Kept.{kept_from}
use Rattle.params.proofs.walk_from.Given as goal

abbrev pub invariant-loop-triple : goal.invariant-loop-triple
invariant-loop-triple l =
    (length l.table ≡ 5)
    × (kept_from l.table l.parts l.reader.cursor (triples_of (drop l.reader.cursor l.reader.frame.now)) ≡ found_from l.start l.table (checked l.table (triples_of (drop l.start l.s))))

abbrev pub decreases-loop-triple : goal.decreases-loop-triple
decreases-loop-triple l = length l.reader.frame.now - l.reader.cursor
