-- `scan::mask_of` meets its promise: so many of a row of ones, as octets. Assumes nothing.
use mathlib.Core.Path.{◌∙◌}
use Rattle.identity.specs.Identity.{width}
use Rattle.identity.proofs.Words.{ones-packed}
use Rattle.scan.proofs.mask_of.Goals as goal

pub returns : goal.returns
returns c = c.octets_of.ensures ∙ ones-packed width c.args.bits
