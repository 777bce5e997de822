-- `in_hex` meets its promise: what is left to put makes the row of all. Assumes nothing.
use Rattle.std.proofs.Common.{refl, arith, length-take}
use Rattle.bench.specs.Written.{hex_row}
use Rattle.bench.proofs.Laws.{hex-turn, hex-done}
use Rattle.bench.proofs.answers.in_hex.Goals as goal

pub loop-i-init : goal.loop-i-init
unfolding hex_row
loop-i-init c = refl

pub bounds-row-i : goal.bounds-row-i
bounds-row-i c =
    let e = c.part-octet-items.ensures in
    omega (arith, rw e at c.loop-i-test.true, length-take 600 c.args.s.now)

pub bounds-row-i-in-loop-i : goal.bounds-row-i-in-loop-i
bounds-row-i-in-loop-i c =
    let e = c.part-octet-items.ensures in
    omega (arith, rw e at c.loop-i-test.true, length-take 600 c.args.s.now)

pub loop-i-preserved : goal.loop-i-preserved
loop-i-preserved c =
    let e = c.part-octet-items.ensures in
    hex-turn _ _ _ (rw e at c.loop-i-test.true) (rw e at c.digit.ensures) (rw e at c.digit-in-loop-i.ensures)
    c.loop-i.invariant

pub returns : goal.returns
returns c =
    let e = c.part-octet-items.ensures in
    hex-done _ _ _ (rw e at c.loop-i-test.false) c.loop-i.invariant
