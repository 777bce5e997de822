-- `message::checked` meets its promise: what the code reads and finds decides the rows, one after the other. Assumes
-- nothing.
use mathlib.Core.Path.{sym, ◌∙◌}
use Rattle.message.specs.Messages.{Named}
use Rattle.message.proofs.Tables.{own-misdeclared, own-barred, own-unknown, own-misfit, own-passed}
use Rattle.message.proofs.checked.Goals as goal

pub returns-then-said-size-clause-number : goal.returns-then-said-size-clause-number
returns-then-said-size-clause-number c =
    own-misdeclared c.args.m.now c.octet-code.ensures c.octet.ensures c.octet-2.ensures
    (c.from-said.ensures ∙ c.pair.ensures) c.if-said-size.true

pub returns-then-is_unsupported-clause-number : goal.returns-then-is_unsupported-clause-number
returns-then-is_unsupported-clause-number c =
    own-barred c.args.m.now c.octet-code.ensures c.octet.ensures c.octet-2.ensures
    (c.from-said.ensures ∙ c.pair.ensures) c.if-said-size.false (sym c.is_unsupported.ensures ∙ c.if-is_unsupported.true)

pub returns-in_err-procedure-clause-number : goal.returns-in_err-procedure-clause-number
returns-in_err-procedure-clause-number c =
    own-unknown c.args.m.now c.octet-code.ensures c.octet.ensures c.octet-2.ensures
    (c.from-said.ensures ∙ c.pair.ensures) c.if-said-size.false (sym c.is_unsupported.ensures ∙ c.if-is_unsupported.false)
    _ _ c.in_err-procedure.ensures c.from_residual.ensures.1

pub returns-then-size-takes-clause-number : goal.returns-then-size-takes-clause-number
unfolding Named
returns-then-size-takes-clause-number c =
    own-misfit c.args.m.now c.octet-code.ensures c.octet.ensures c.octet-2.ensures
    (c.from-said.ensures ∙ c.pair.ensures) c.if-said-size.false (sym c.is_unsupported.ensures ∙ c.if-is_unsupported.false)
    _ c.in_ok-procedure.ensures (λ q. c.if-size-takes.true (q ∙ sym c.takes.ensures))

pub returns-clause-number : goal.returns-clause-number
unfolding Named
returns-clause-number c =
    own-passed c.args.m.now c.octet-code.ensures c.octet.ensures c.octet-2.ensures
    (c.from-said.ensures ∙ c.pair.ensures) c.if-said-size.false (sym c.is_unsupported.ensures ∙ c.if-is_unsupported.false)
    _ c.in_ok-procedure.ensures (c.if-size-takes.false ∙ c.takes.ensures)

pub returns-clause-asks : goal.returns-clause-asks
unfolding Named
returns-clause-asks c = c.in_ok-procedure.ensures ∙ c.octet-code.ensures
