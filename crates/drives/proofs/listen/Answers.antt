-- `drives::listen` meets its promise: each way out, by the test that leads to it. Assumes nothing.
use native.Mathlib.Omega.{arith}
use Rattle.drives.proofs.Ways.{listens-frame, listens-line}
use Rattle.drives.proofs.listen.Goals as goal

pub returns-then-command-eq-FRAME : goal.returns-then-command-eq-FRAME
returns-then-command-eq-FRAME c =
    let a = c.args in
    listens-frame a.command a.device.now a.octets.now _ (omega arith) c.judge.ensures

pub returns : goal.returns
returns c =
    let a = c.args in
    listens-line a.command a.device.now a.octets.now _ c.if-command-eq-FRAME.false c.hear.ensures
