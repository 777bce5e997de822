-- `scan::is_over` meets its promise: a law of `Overs` for each way out. Assumes nothing.
use mathlib.Core.Path.{ap}
use Rattle.scan.specs.Scan.{ended}
use Rattle.scan.proofs.Overs.{ended-not_asking, over-ended, over-count, over-list, over-bits}
use Rattle.scan.proofs.is_over.Goals as goal

pub returns-in_default : goal.returns-in_default
returns-in_default c = over-ended _ (ended-not_asking _ c.in_default.not-Asking)

pub returns-then-scan : goal.returns-then-scan
returns-then-scan c = over-count c.args.scan c.if-scan.true

pub returns-then-scan-gt-LIST_MOST : goal.returns-then-scan-gt-LIST_MOST
returns-then-scan-gt-LIST_MOST c = over-list c.args.scan c.if-scan-gt-LIST_MOST.true

pub returns : goal.returns
unfolding ended
returns c = over-bits c.args.scan (ap ended c.in-Asking.is) c.if-scan.false c.if-scan-gt-LIST_MOST.false
