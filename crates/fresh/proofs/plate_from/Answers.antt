-- `fresh::plate_from` meets its promise: its four texts fit. Assumes nothing.
use mathlib.Core.Path.{◌∙◌}
use Rattle.octets.proofs.Texts.{laid-all}
use Rattle.record.proofs.Laid.{texts-fit}
use Rattle.record.proofs.Freshly.{plated}
use Rattle.fresh.proofs.plate_from.Goals as goal

pub returns : goal.returns
returns c =
    let fit = texts-fit _ _ _ _ c.requires in
    plated _ _ _ _ (c.of.ensures ∙ laid-all _ _ fit.0) (c.of-2.ensures ∙ laid-all _ _ fit.1)
    (c.of-3.ensures ∙ laid-all _ _ fit.2)
    (c.of-4.ensures ∙ laid-all _ _ fit.3)
