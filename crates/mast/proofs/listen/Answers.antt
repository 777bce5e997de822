-- `mast::listen` meets its promise: what is said is a frame exactly if the line is answered by one. Assumes nothing.
use mathlib.Core.Path.{refl}
use Rattle.mast.specs.Steps.{line_in}
use Rattle.mast.proofs.Lines.{listens-is}
use Rattle.mast.proofs.listen.Goals as goal

pub returns-in-Ok-Some : goal.returns-in-Ok-Some
returns-in-Ok-Some c =
    let a = c.args in
    listens-is a.device.now (line_in a.line) c.hear.ensures (rw c.octets.ensures.all at c.inner.ensures)
    (rw c.in-Ok-Some.is (rw c.in-Ok-Some.field-0-is refl))

pub returns-in-Ok-None : goal.returns-in-Ok-None
returns-in-Ok-None c =
    let a = c.args in
    listens-is a.device.now (line_in a.line) c.hear.ensures (rw c.octets.ensures.all at c.inner.ensures)
    (rw c.in-Ok-None.is (rw c.in-Ok-None.field-0-is refl))

pub returns-in-Err : goal.returns-in-Err
returns-in-Err c =
    let a = c.args in
    listens-is a.device.now (line_in a.line) c.hear.ensures (rw c.octets.ensures.all at c.inner.ensures) (rw c.in-Err.is refl)
