-- `block::put_marks` meets its promise: seven octets fill the part behind the store. Assumes nothing.
use mathlib.Core.Path.{sym}
use Rattle.block.specs.Block.{marks_octets}
use Rattle.block.proofs.Parts.{sets-whole}
use Rattle.block.proofs.put_marks.Goals as goal

pub returns : goal.returns
unfolding marks_octets
returns c =
    rw (
      c.to_le_bytes.ensures,
      c.yes_octet.ensures,
      c.yes_octet-2.ensures,
      c.yes_octet-3.ensures,
      c.yes_octet-4.ensures,
      c.yes_octet-5.ensures,
    )
    (sets-whole (marks_octets c.args.receiver) c.args.t.now (sym c.requires))
