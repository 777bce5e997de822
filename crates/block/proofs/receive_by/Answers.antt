-- `block::receive_by` meets its promise: the parts of the block, put together. Assumes nothing.
use Rattle.std.proofs.lemmas.Result.{err_from_is_err_and}
use native.Mathlib.Omega.{arith}
use lib.ListN.{length-take}
use Rattle.block.proofs.Parts.{held-parts, store-whole, block_refused, block-taken}
use Rattle.block.proofs.receive_by.Goals as goal

pub slice_bounds-receive_in-end-2 : goal.slice_bounds-receive_in-end-2
slice_bounds-receive_in-end-2 c =
    simp length-take (omega (arith, c.requires))

pub returns-in_err-received : goal.returns-in_err-received
returns-in_err-received c =
    let same = held-parts c.args.block.now c.marks-held.ensures in
    let p = err_from_is_err_and c.from_residual.result c.from_residual.ensures.1 in
    rw (p.1, p.2) (block_refused _ _ (rw (same, c.in_err-received.was) at c.receive_in.ensures))

pub returns : goal.returns
returns c =
    let same = held-parts c.args.block.now c.marks-held.ensures in
    block-taken _ _ (rw (same, c.in_ok-received.was) at c.receive_in.ensures)
    (store-whole c.receive_in.new.store c.args.block.now (omega arith) c.requires) c.put_marks.ensures
