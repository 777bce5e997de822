-- `params::walk_from` meets its promise: what is left from the cursor on comes to the same as all. The measure is what
-- is left of the length. Assumes nothing.
use borrow.Author.Rules.{rules}
use mathlib.Core.Path.{sym, ap, ◌∙◌}
use native.Mathlib.Omega.{arith}
use Rattle.std.specs.Prelude.{Ok}
use Rattle.std.specs.Result.{result_ok}
use Rattle.std.proofs.lemmas.Result.{err_from_is_err_and}
use Rattle.reader.proofs.Steps.{told, next-behind}
use Rattle.params.proofs.Kept.{kept-all, room-taken, room-left, taken-inside}
use Rattle.params.proofs.Turns.{turn_end, turn-broken, turn-not, turn_more}
use Rattle.params.proofs.walk_from.Goals as goal

pub loop-triple-init : goal.loop-triple-init
loop-triple-init c =
    (search rules, rw c.new-reader.ensures (kept-all c.args.table 5 (search rules) c.args.start _))

pub returns-in_err-triple : goal.returns-in_err-triple
returns-in_err-triple c =
    let at = c.loop-triple in
    let p = err_from_is_err_and c.from_residual.result c.from_residual.ensures.1 in
    let broken = turn-broken _ _ _ _ at.invariant.1 (told _ _ c.next.ensures.0 c.in_err-triple.was) in
    p.1 ∙ broken

pub returns-in_err-row : goal.returns-in_err-row
returns-in_err-row c =
    let at = c.loop-triple in
    let h = told _ _ c.next.ensures.0 (c.in_ok-triple.was ∙ ap Ok c.in-Some.is) in
    let no = room-left c.args.table at.parts _ _ c.room_for.ensures (c.ok_or.ensures.ok_part ∙ ap result_ok c.in_err-row.was) in
    let p = err_from_is_err_and c.from_residual-in_err-row.result c.from_residual-in_err-row.ensures.1 in
    p.1 ∙ turn-not c.args.table at.parts _ _ at.invariant.1 h no

pub offset_bounds-parts-row : goal.offset_bounds-parts-row
offset_bounds-parts-row c =
    let at = c.loop-triple in
    let h = taken-inside c.args.table at.parts _ _ c.room_for.ensures (c.ok_or.ensures.ok_part ∙ ap result_ok c.in_ok-row.was) in
    omega (arith, h, at.invariant.0)

pub bounds-parts-row : goal.bounds-parts-row
bounds-parts-row c =
    let at = c.loop-triple in
    let h = taken-inside c.args.table at.parts _ _ c.room_for.ensures (c.ok_or.ensures.ok_part ∙ ap result_ok c.in_ok-row.was) in
    omega (arith, h, at.invariant.0)

pub loop-triple-smaller : goal.loop-triple-smaller
loop-triple-smaller c =
    let at = c.loop-triple in
    let found = c.in_ok-triple.was ∙ ap Ok c.in-Some.is in
    let h = told _ _ c.next.ensures.0 found in
    let moved = next-behind _ c.next.ensures.1 (sym c.next.ensures.0 ∙ found) in
    rw moved (omega (arith, h.0, h.2))

pub loop-triple-preserved : goal.loop-triple-preserved
loop-triple-preserved c =
    let at = c.loop-triple in
    let found = c.in_ok-triple.was ∙ ap Ok c.in-Some.is in
    let h = told _ _ c.next.ensures.0 found in
    let moved = next-behind _ c.next.ensures.1 (sym c.next.ensures.0 ∙ found) in
    let (fits, place) = room-taken c.args.table at.parts _ _ c.room_for.ensures (c.ok_or.ensures.ok_part ∙ ap result_ok c.in_ok-row.was) in
    let more = turn_more c.args.table at.parts _ _ at.invariant.1 h fits in
    (at.invariant.0, rw (place, moved) more)

pub returns : goal.returns
returns c =
    let at = c.loop-triple in
    turn_end _ _ _ _ at.invariant.1 (told _ _ c.next.ensures.0 (c.in_ok-triple.was ∙ ap Ok c.in_default.is))
