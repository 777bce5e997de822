-- `writer::put_rest` meets its promise: what is left of the octets is what is left to put. Assumes nothing.
use borrow.Author.Rules.{rules}
use native.Mathlib.Omega.{arith}
use Rattle.octets.proofs.Runs.{run-all, run-put, run-done}
use Rattle.frame.proofs.Escapes.{line-more, more-long, line-done}
use Rattle.writer.proofs.put_rest.Goals as goal

pub loop-b-init : goal.loop-b-init
loop-b-init c = (search rules, run-all)

pub put_octet-n-requires : goal.put_octet-n-requires
put_octet-n-requires c =
    omega (arith, more-long c.args.d.now c.loop-b.b-index c.loop-b-test.true)

pub loop-b-preserved : goal.loop-b-preserved
loop-b-preserved c =
    let put = c.put_octet-n.ensures in
    (search rules, run-put _ put (line-more _ _ c.loop-b-test.true) c.loop-b.invariant.1)

pub returns : goal.returns
returns c = run-done (line-done _ _ c.loop-b-test.false) c.loop-b.invariant.1
