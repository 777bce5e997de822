-- `frame::unescape` meets its promise: what is left of the line, decoded, is what is left to store. Assumes nothing.
use borrow.Author.Rules.{rules}
use mathlib.Core.Path.{refl}
use Rattle.octets.proofs.Runs.{run-all, run-one, run-done}
use Rattle.frame.proofs.Lines.{plain_done, plain-pair, plain-octet, one-behind}
use Rattle.frame.proofs.unescape.Goals as goal

pub loop-i-init : goal.loop-i-init
loop-i-init c = record { inside = search rules; few = search rules; long = search rules; run = run-all }

pub bounds-s-i-then-b-eq-ESCAPE : goal.bounds-s-i-then-b-eq-ESCAPE
bounds-s-i-then-b-eq-ESCAPE c =
    one-behind _ _ c.loop-i-test.true c.requires.1 c.if-b-eq-ESCAPE.true

pub loop-i-preserved-then-b-eq-ESCAPE : goal.loop-i-preserved-then-b-eq-ESCAPE
loop-i-preserved-then-b-eq-ESCAPE c =
    let at = c.loop-i.invariant in
    let escape = c.if-b-eq-ESCAPE.true in
    let pair = one-behind _ _ c.loop-i-test.true c.requires.1 escape in
    record {
      inside = search rules;
      few = search rules;
      long = search rules;
      run = run-one _ refl (plain-pair _ _ c.loop-i-test.true escape pair) at.run;
    }

pub loop-i-preserved : goal.loop-i-preserved
loop-i-preserved c =
    let at = c.loop-i.invariant in
    record {
      inside = search rules;
      few = search rules;
      long = search rules;
      run = run-one _ refl (plain-octet _ _ c.loop-i-test.true c.if-b-eq-ESCAPE.false) at.run;
    }

pub returns : goal.returns
returns c = run-done (plain_done _ _ c.loop-i-test.false) c.loop-i.invariant.run
