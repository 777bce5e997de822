-- `next_line` meets its promise, and ends: each turn reads one run more, and the turns that are left fall. Assumes nothing.
use mathlib.Core.Path.{refl}
use mathlib.Core.List.{[]}
use Rattle.bench.specs.Input.{anew, after_runs}
use Rattle.bench.proofs.Laws.{run_more, comes-ended, comes-whole}
use Rattle.bench.proofs.input.next_line.Goals as goal

pub loop-init : goal.loop-init
unfolding after_runs
loop-init c = ([], refl)

pub returns-then-next : goal.returns-then-next
unfolding anew
returns-then-next c =
    let loop = c.loop in
    comes-whole c.args.input loop.invariant c.take-next.ensures c.if-next.true

pub loop-preserved : goal.loop-preserved
loop-preserved c = run_more _ c.loop.invariant c.take-next.ensures c.in_ok-next.ensures

pub returns-then-next-eq0 : goal.returns-then-next-eq0
unfolding anew
returns-then-next-eq0 c =
    comes-ended c.args.input (run_more _ c.loop.invariant c.take-next.ensures c.in_ok-next.ensures)

pub returns : goal.returns
unfolding anew
returns c = comes-ended c.args.input c.loop.invariant
