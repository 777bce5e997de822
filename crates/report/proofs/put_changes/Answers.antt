-- `report::put_changes` meets its promise: what is left of the flags is what is left to store. Assumes nothing.
use borrow.Author.Rules.{rules}
use Prim.Native.Nat.{◌<◌}
use native.Mathlib.Omega.{arith}
use lib.ListN.{length}
use Rattle.octets.proofs.Runs.{run-all, run-two, run_is, run-done}
use Rattle.antenna.specs.Alarms.{alarm_codes}
use Rattle.report.proofs.Flags.{told-same, told-apart, flag-number, changes-here, changes-none, changes-done}
use Rattle.report.proofs.put_changes.Goals as goal

pub loop-i-init : goal.loop-i-init
loop-i-init c = (search rules, search rules, search rules, search rules, search rules, run-all)

pub loop-i-preserved-then-on-was : goal.loop-i-preserved-then-on-was
loop-i-preserved-then-on-was c =
    let at = c.loop-i in
    let h : at.i < 6 = omega arith in
    let k : at.i < length c.args.present = omega arith in
    let l : at.i < length c.args.told = omega arith in (
      search rules,
      search rules,
      search rules,
      search rules,
      search rules,
      run_is (changes-none alarm_codes _ _ at.i h k l (told-same _ _ c.if-on-was.true)) at.invariant.5,
    )

pub loop-i-preserved : goal.loop-i-preserved
loop-i-preserved c =
    let at = c.loop-i in
    let h : at.i < 6 = omega arith in
    let k : at.i < length c.args.present = omega arith in
    let l : at.i < length c.args.told = omega arith in (
      search rules,
      search rules,
      search rules,
      search rules,
      search rules,
      run-two _ _ c.put.ensures (rw (c.from.ensures, flag-number) at c.put-in-loop-i.ensures)
          (changes-here alarm_codes _ _ at.i h k l (told-apart _ _ c.if-on-was.false)) at.invariant.5,
    )

pub returns : goal.returns
returns c =
    let at = c.loop-i in
    run-done (changes-done alarm_codes _ _ at.i c.loop-i-test.false) at.invariant.5
