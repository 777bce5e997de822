-- `report::put_codes` meets its promise: what is left of the flags is what is left to store. Assumes nothing.
use borrow.Author.Rules.{rules}
use Prim.Native.Nat.{◌<◌}
use native.Mathlib.Omega.{arith}
use lib.ListN.{length}
use Rattle.octets.proofs.Runs.{run-all, run-one, run_is}
use Rattle.antenna.specs.Alarms.{alarm_codes}
use Rattle.report.proofs.Flags.{codes-on, codes-off, codes-done}
use Rattle.payload.proofs.Backs.{success-put}
use Rattle.report.proofs.put_codes.Goals as goal

pub loop-i-init : goal.loop-i-init
loop-i-init c = (search rules, search rules, search rules, search rules, run-all)

pub loop-i-preserved-then-not-flags-i : goal.loop-i-preserved-then-not-flags-i
loop-i-preserved-then-not-flags-i c =
    let at = c.loop-i in
    let h : at.i < 6 = omega arith in
    let k : at.i < length c.args.flags = omega arith in (
      search rules,
      search rules,
      search rules,
      search rules,
      run_is (codes-off alarm_codes _ at.i h k c.if-not-flags-i.true) at.invariant.4,
    )

pub loop-i-preserved : goal.loop-i-preserved
loop-i-preserved c =
    let at = c.loop-i in
    let h : at.i < 6 = omega arith in
    let k : at.i < length c.args.flags = omega arith in (
      search rules,
      search rules,
      search rules,
      search rules,
      run-one _ c.put-in-loop-i.ensures (codes-on alarm_codes _ at.i h k c.if-not-flags-i.false) at.invariant.4,
    )

pub returns : goal.returns
returns c =
    let at = c.loop-i in
    success-put _ _ c.put.ensures
    (run_is (codes-done alarm_codes _ at.i c.loop-i-test.false) at.invariant.4)
