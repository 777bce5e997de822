-- `writer::assemble` meets its promise: address, control, payload, and the check of what was stored so far.
-- Assumes nothing.
use native.Mathlib.Omega.{arith}
use lib.ListN.{length-take}
use Rattle.frame.proofs.Assembled.{assembled}
use Rattle.writer.proofs.assemble.Goals as goal

pub slice_bounds-check-end-2 : goal.slice_bounds-check-end-2
slice_bounds-check-end-2 c = simp length-take (omega arith)

pub returns : goal.returns
returns c =
    assembled _ _ _ _ c.requires
    c.put.ensures c.put-2.ensures c.put_all.ensures
    c.check.ensures (rw c.to_le_bytes.ensures at c.put-3.ensures) (rw c.to_le_bytes.ensures at c.put-4.ensures)
