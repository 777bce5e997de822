-- `scanner::climb` meets its promise: a trailing one dropped does not change what is next. Assumes nothing.
use mathlib.Core.Path.{◌≡◌}
use lib.ListN.{take}
use Rattle.walk.specs.Machine.{next}
use Rattle.scanner.proofs.climb.Given as goal

abbrev pub invariant-loop-n : goal.invariant-loop-n
invariant-loop-n l = next (take l.bits l.beginning) ≡ next (take l.n l.beginning)
