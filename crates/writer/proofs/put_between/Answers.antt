-- `writer::put_between` meets its promise: four octets a turn, the rest, and a flag before and behind. Assumes nothing.
use borrow.Author.Rules.{rules}
use mathlib.Core.Path.{◌≡◌, refl, sym, ap, ◌∙◌}
use mathlib.Core.List.{append-nil}
use Prim.Native.Nat.{◌*◌, ◌/◌}
use native.Mathlib.Omega.{arith}
use lib.ListN.{length, length-set}
use Rattle.octets.proofs.Runs.{run-all, run-put, run-done}
use Rattle.frame.specs.Line.{on_line}
use Rattle.frame.proofs.Escapes.{length-between, line-chunk, chunk-long, between_put}
use Rattle.writer.proofs.put_between.Goals as goal

pub bounds-line-0 : goal.bounds-line-0
bounds-line-0 c = omega (arith, length-between c.args.d.now)

pub loop-four-init : goal.loop-four-init
loop-four-init c =
    let long = length-between c.args.d.now in
    (refl, simp length-set (omega arith), run-all)

pub put_rest-n-requires : goal.put_rest-n-requires
put_rest-n-requires c =
    let fours = c.as_chunks.ensures in
    let left = c.loop-four.invariant.2.count in
    omega (arith, left, chunk-long 4 c.loop-four.four-index c.args.d.now fours.front fours.front_len c.loop-four-test.true)

pub loop-four-preserved : goal.loop-four-preserved
loop-four-preserved c =
    let fours = c.as_chunks.ensures in
    let four = line-chunk 4 c.loop-four.four-index c.args.d.now fours.front fours.front_len c.loop-four-test.true in
    (search rules, search rules, run-put _ c.put_rest-n.ensures four c.loop-four.invariant.2)

pub returns : goal.returns
returns c =
    let put = c.put_rest-end.ensures in
    let end : c.loop-four.four-index * 4 ≡ length c.args.d.now / 4 * 4 = omega (arith, c.as_chunks.ensures.front_len) in
    let left = ap on_line (rw end (sym c.as_chunks.ensures.back)) in
    between_put _ refl (run-done refl (run-put _ put (left ∙ sym (append-nil _)) c.loop-four.invariant.2)) refl
