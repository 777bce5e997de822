-- `salvage::work` meets its promise: up to the place where it stands nothing was left out. Assumes nothing.
use Rattle.std.proofs.Common.{arith}
use Rattle.salvage.specs.Pieces.{settled_by}
use Rattle.salvage.proofs.Going.{turns-none, turns-over, going, inside, rest_some, turn-few, turn-less, turn-held, turn-fits, turn_on}
use Rattle.salvage.proofs.work.Goals as goal

pub loop-at-init : goal.loop-at-init
loop-at-init c = turns-none c.requires.0 c.requires.1 c.requires.2

pub slice_bounds-gather-count : goal.slice_bounds-gather-count
slice_bounds-gather-count c = inside c.loop-at.invariant c.loop-at-test.true

pub slice_bounds-gather-start : goal.slice_bounds-gather-start
slice_bounds-gather-start c = inside c.loop-at.invariant c.loop-at-test.true

pub gather-requires : goal.gather-requires
gather-requires c =
    let test = c.loop-at-test.true in
    let gone = (going c.loop-at.invariant test).0 in (gone.fits, gone.limit, rest_some c.loop-at.invariant test)

pub overflow_add-at : goal.overflow_add-at
overflow_add-at c =
    omega (arith, c.well_formed.1.1.0.0, turn-few c.loop-at.invariant c.loop-at-test.true (rw c.in_ok-gathered.was at c.gather.ensures))

pub write_kept-put-requires : goal.write_kept-put-requires
write_kept-put-requires c =
    let inv = c.loop-at.invariant in
    let test = c.loop-at-test.true in
    (turn-held inv test (rw c.in_ok-gathered.was at c.gather.ensures), turn-fits inv test (rw c.in_ok-gathered.was at c.gather.ensures))

pub loop-at-smaller : goal.loop-at-smaller
loop-at-smaller c = turn-less c.loop-at.invariant c.loop-at-test.true (rw c.in_ok-gathered.was at c.gather.ensures)

pub loop-at-preserved : goal.loop-at-preserved
unfolding settled_by
loop-at-preserved c =
    turn_on c.loop-at.invariant c.loop-at-test.true (rw c.in_ok-gathered.was at c.gather.ensures) c.write_kept-put.ensures
    c.list-left_out.ensures c.until-end.ensures c.settle.ensures

pub shape_of-store : goal.shape_of-store
shape_of-store c = c.loop-at.invariant.store

pub shape_of-raw : goal.shape_of-raw
shape_of-raw c = c.loop-at.invariant.raw

pub shape_of-out : goal.shape_of-out
shape_of-out c = c.loop-at.invariant.out

pub returns-in_err-gathered : goal.returns-in_err-gathered
returns-in_err-gathered c = absurd (rw c.in_err-gathered.was at c.gather.ensures)

pub returns : goal.returns
returns c = turns-over c.loop-at.invariant c.loop-at-test.false
