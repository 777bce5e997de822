-- `fresh::fresh` meets its promise: each way out, by the test that leads to it. Assumes nothing.
use mathlib.Core.Path.{sym, ◌∙◌}
use Rattle.refusal.specs.Answer.{made_of}
use Rattle.record.proofs.Freshly.{data-texts, data-wrong, data-right}
use Rattle.fresh.proofs.fresh.Goals as goal

pub returns-then-not-data_allowed : goal.returns-then-not-data_allowed
unfolding made_of
returns-then-not-data_allowed c =
    sym (data-wrong _ _ _ _ _ c.fresh_antenna-antenna.ensures (sym c.data_allowed.ensures ∙ c.if-not-data_allowed.true))

pub plate_from-plate-requires : goal.plate_from-plate-requires
plate_from-plate-requires c = data-texts _ _ _ _ _ (sym c.data_allowed.ensures ∙ c.if-not-data_allowed.false)

pub returns : goal.returns
unfolding made_of
returns c =
    let right = sym c.data_allowed.ensures ∙ c.if-not-data_allowed.false in
    sym (data-right _ _ _ _ _ c.fresh_antenna-antenna.ensures right c.plate_from-plate.ensures c.fresh_from.ensures)
