-- `salvage::emptied` meets its promise. Assumes nothing.
use Rattle.std.proofs.Common.{◌∙◌, arith}
use Rattle.salvage.specs.Pieces.{settled_by}
use Rattle.salvage.proofs.Steps.{emptied-is}
use Rattle.salvage.proofs.emptied.Goals as goal

pub returns : goal.returns
unfolding settled_by
returns c =
    c.settle.ensures ∙ emptied-is _ (omega (arith, c.well_formed)) c.requires c.new-left.ensures
