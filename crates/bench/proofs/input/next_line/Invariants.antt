-- `next_line` meets its promise: each turn reads one run more. Assumes nothing.
use Rattle.bench.proofs.Laws.{Reads}
use Rattle.bench.proofs.input.next_line.Given as goal

abbrev pub invariant-loop : goal.invariant-loop
invariant-loop l = Reads l.initial.next l.next
