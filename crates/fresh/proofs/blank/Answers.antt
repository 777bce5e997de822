-- `fresh::blank` meets its promise: four empty texts, and an antenna at rest. Assumes nothing.
use mathlib.Core.Path.{ap₂, ◌∙◌}
use mathlib.Core.List.{[]}
use Rattle.record.proofs.Freshly.{plated}
use Rattle.record.specs.Fresh.{fresh_from, blank_device}
use Rattle.fresh.proofs.blank.Goals as goal

pub returns : goal.returns
unfolding blank_device
returns c =
    let plate = plated [] [] [] [] c.of.ensures c.of-2.ensures c.of-3.ensures c.of-4.ensures in
    c.fresh_from.ensures ∙ ap₂ fresh_from plate c.fresh_antenna.ensures
