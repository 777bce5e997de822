-- `scanner::climb` meets its promise: a trailing one dropped does not change what is next. Assumes nothing.
use mathlib.Core.Path.{◌≡◌, ap, ◌∙◌}
use native.Mathlib.Omega.{arith}
use Rattle.scan.specs.Steps.{next_at}
use Rattle.scan.proofs.Climbs.{climb-zero, climb-one, climb-none}
use Rattle.scanner.proofs.climb.Goals as goal

pub returns-then-not-beginning-n-clause-after : goal.returns-then-not-beginning-n-clause-after
returns-then-not-beginning-n-clause-after c =
    let row = c.args.beginning in
    c.loop-n.invariant ∙ climb-zero row c.loop-n.n (omega arith) (omega arith) c.if-not-beginning-n.true
    ∙ ap (next_at row) (omega arith)

pub loop-n-preserved : goal.loop-n-preserved
loop-n-preserved c =
    c.loop-n.invariant ∙ climb-one c.args.beginning c.loop-n.n (omega arith) (omega arith) c.if-not-beginning-n.false

pub returns-clause-after : goal.returns-clause-after
returns-clause-after c =
    let none : c.loop-n.n ≡ 0 = omega arith in
    rw none at (c.loop-n.invariant ∙ climb-none c.args.beginning c.loop-n.n none)
