-- `place_in` meets its promise: the place among the names left is the place among all. Assumes nothing.
use Rattle.std.proofs.Common.{◌≡◌, ◌-◌}
use Rattle.script.specs.Words.{place_from}
use Rattle.script.proofs.place_in.Given as goal

abbrev pub invariant-loop-place : goal.invariant-loop-place
invariant-loop-place l = place_from l.place (l.count - l.place) l.names l.name ≡ place_from 0 l.count l.names l.name
