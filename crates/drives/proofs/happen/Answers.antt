-- `drives::happen` meets its promise: the event, or 6 or 8 for a value that is none. Assumes nothing.
use mathlib.Core.Path.{sym, ap, ◌∙◌}
use Rattle.refusal.specs.declared.Refusal.TheVariants.{NotAllowed, CannotBe}
use Rattle.refusal.proofs.Answers.{unchanged, changes-is}
use Rattle.record.specs.Changes.{happened}
use Rattle.drives.proofs.Ways.{happens-event, happens-never, happens-not}
use Rattle.drives.proofs.happen.Goals as goal

pub event_of-requires : goal.event_of-requires
event_of-requires c = sym c.is_value.ensures ∙ c.if-is_value.true

pub returns-then-is_value : goal.returns-then-is_value
returns-then-is_value c =
    let a = c.args in
    changes-is
    (ap (happened a.device.now) c.event_of.ensures
    ∙ happens-event a.device.now a.command a.value
    (sym c.is_value.ensures ∙ c.if-is_value.true))
    c.happen.ensures

pub returns-then-allowed : goal.returns-then-allowed
returns-then-allowed c =
    let a = c.args in
    unchanged CannotBe
    (happens-never a.device.now a.command a.value
    (sym c.is_value.ensures ∙ c.if-is_value.false)
    (sym c.allowed.ensures ∙ c.if-allowed.true))

pub returns : goal.returns
returns c =
    let a = c.args in
    unchanged NotAllowed
    (happens-not a.device.now a.command a.value (sym c.allowed.ensures ∙ c.if-allowed.false))
