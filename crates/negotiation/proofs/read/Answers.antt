-- `negotiation::read` meets its promise: the walk reads what the definition says. Assumes nothing.
use mathlib.Core.Path.{ap, ◌∙◌}
use Rattle.std.proofs.lemmas.Result.{err_from_is_err_and}
use Rattle.params.specs.declared.Group.{Group}
use Rattle.params.specs.Walk.{found_in}
use Rattle.negotiation.proofs.Found.{read-agreed, read-malformed}
use Rattle.negotiation.proofs.read.Goals as goal

pub returns-in_err-parts : goal.returns-in_err-parts
returns-in_err-parts c =
    let a = c.args in
    let found = c.walk.ensures ∙ ap (λ (g : Group). found_in g a.payload.now) c.negotiating.ensures in
    let p = err_from_is_err_and c.from_residual.result c.from_residual.ensures.1 in
    p.1 ∙ read-malformed a.payload.now a.limit found c.in_err-parts.was

pub returns : goal.returns
returns c =
    let a = c.args in
    let found = c.walk.ensures ∙ ap (λ (g : Group). found_in g a.payload.now) c.negotiating.ensures in
    read-agreed a.payload.now a.limit found c.in_ok-parts.was c.asked_by.ensures c.limit_asked.ensures
