-- `handed_by` meets its promise: each way out, by the test that leads to it. Assumes nothing.
use Rattle.bench.proofs.Laws.{hands-probe, hands-coded}
use Rattle.bench.proofs.handed.handed_by.Goals as goal

pub returns-then-asked-eq-PROBE : goal.returns-then-asked-eq-PROBE
returns-then-asked-eq-PROBE c =
    let a = c.args in
    hands-probe a.asked.command a.scan a.asked _ c.if-asked-eq-PROBE.true c.probe.ensures

pub returns : goal.returns
returns c =
    let a = c.args in
    hands-coded a.asked.command a.scan a.asked _ c.if-asked-eq-PROBE.false c.coded_by.ensures
