-- `xid::read` meets its promise: the walk reads what the definition says. Assumes nothing.
use mathlib.Core.Path.{ap, ◌∙◌}
use Rattle.params.specs.declared.Group.{Group}
use Rattle.params.specs.Walk.{found_in}
use Rattle.params.proofs.Values.{walk-malformed}
use Rattle.xid.specs.Addressing.{addressing, values_at}
use Rattle.xid.proofs.Found.{values-named}
use Rattle.xid.proofs.Judging.{read-formed, read-malformed}
use Rattle.xid.proofs.read.Goals as goal

pub returns-in-Ok : goal.returns-in-Ok
returns-in-Ok c =
    let m = c.args.payload.now in
    let found = c.walk.ensures ∙ ap (λ (g : Group). found_in g m) c.addressing.ensures in
    let (ps, formed, values) = values-named m found c.in-Ok.is in
    let named = ap (values_at m) c.parts_by.ensures ∙ values in
    read-formed _ m c.parts_by.result (ps, formed, named) c.judge.ensures

pub returns-in-Err : goal.returns-in-Err
returns-in-Err c =
    let m = c.args.payload.now in
    let found = c.walk.ensures ∙ ap (λ (g : Group). found_in g m) c.addressing.ensures in
    read-malformed _ m (walk-malformed addressing m found c.in-Err.is)
