-- `event::happen` meets its promise: refusal 6, or the event of the antenna. Assumes nothing.
use mathlib.Core.Path.{sym, ◌∙◌}
use Rattle.refusal.specs.declared.Refusal.TheVariants.{NotAllowed}
use Rattle.refusal.proofs.Answers.{unchanged}
use Rattle.record.proofs.Happened.{not-allowed, device-happened}
use Rattle.event.proofs.happen.Goals as goal

pub returns-then-not-allowed : goal.returns-then-not-allowed
returns-then-not-allowed c =
    unchanged NotAllowed (not-allowed _ _ (sym c.allowed.ensures ∙ c.if-not-allowed.true))

pub returns : goal.returns
returns c = device-happened _ _ (sym c.allowed.ensures ∙ c.if-not-allowed.false) c.antenna_after.ensures
