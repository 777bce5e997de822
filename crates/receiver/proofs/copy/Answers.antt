-- `receiver::copy` meets its promise: what was copied so far stands there. Assumes nothing.
use mathlib.Core.Bool.{true}
use mathlib.Core.Path.{◌≡◌}
use native.Mathlib.Omega.{arith}
use lib.ListN.{get_or, length-set}
use Rattle.frame.specs.Line.{special}
use Rattle.receiver.proofs.Passing.{below, first_plain, flag-special, escape-special, more-plain, more-copied}
use Rattle.receiver.proofs.copy.Goals as goal
use Rattle.receiver.proofs.copy.Goals.{then-b-eq-FLAG-via-then-b-eq-FLAG, then-b-eq-FLAG-via-else-b-eq-FLAG+then-b-eq-ESCAPE}

pub returns-then-b-eq-FLAG : goal.returns-then-b-eq-FLAG
returns-then-b-eq-FLAG c =
    let pre = c.requires in
    let inside = below _ _ c.loop-i-test.true c.min-most.ensures in
    let end : special (get_or c.args.s.now c.loop-i.i 0) ≡ true =
    elim c.then-b-eq-FLAG.branch [
      | then-b-eq-FLAG-via-then-b-eq-FLAG w ↦ flag-special _ w.if-b-eq-FLAG.true
      | then-b-eq-FLAG-via-else-b-eq-FLAG+then-b-eq-ESCAPE w ↦ escape-special _ w.if-b-eq-ESCAPE.true
    ] in
    record {
      some = first_plain c.args.s.now _ pre.0 pre.2 end;
      few = omega (arith, inside);
      inside = omega (arith, c.loop-i-test.true, c.min-most.ensures, pre.1);
      plain = c.loop-i.invariant.0;
      octets = c.loop-i.invariant.1;
    }

pub loop-i-preserved : goal.loop-i-preserved
loop-i-preserved c =
    let inside = below _ _ c.loop-i-test.true c.min-most.ensures in (
      more-plain _ _ inside c.if-b-eq-FLAG.false c.if-b-eq-ESCAPE.false c.loop-i.invariant.0,
      more-copied _ _ inside _ _ c.loop-i.invariant.1,
      rw length-set c.loop-i.invariant.2,
    )
