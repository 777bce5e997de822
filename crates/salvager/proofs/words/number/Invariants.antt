-- `salvager::words::number` meets its promise: what is left, behind what was read. Assumes nothing.
use Rattle.std.proofs.Common.{◌≡◌, ◌≤◌, drop}
use Rattle.salvager.specs.Words.{number_after, number_in}
use Rattle.salvager.proofs.words.number.Given as goal

abbrev pub invariant-loop-b : goal.invariant-loop-b
invariant-loop-b l = (number_after l.n (drop l.b-index l.s) ≡ number_in l.s) × (l.n ≤ 1000)
