-- `fcs::RemainderTable::run` meets its promise: the octets that are left, from the register as it is, give what all gave from the
-- start. Assumes nothing.
use native.Mathlib.Omega.{arith}
use Rattle.octets.proofs.Chunks.{chunk-length}
use Rattle.fcs.proofs.Register.{register-chunk, register-whole}
use Rattle.fcs.proofs.RemainderTable.run.Goals as goal

pub loop-a-preserved : goal.loop-a-preserved
loop-a-preserved c =
    let now = c.loop-a in
    let s = c.args.s.now in
    let eights = c.as_chunks.ensures in
    let eight = chunk-length 8 now.a-index s eights.front eights.front_len c.loop-a-test.true (omega (arith, eights.front_len)) in
    register-chunk 8 now.a-index _ s eights.front eights.front_len c.loop-a-test.true now.invariant
    (register-whole _ _ eight c.two_on-two.ensures c.two_on-four.ensures c.two_on-six.ensures c.two_on-r.ensures)
