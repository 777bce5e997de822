-- `with_pairs` meets its promise: the octets so far, with those of the digits left behind them, are all. Assumes
-- nothing.
use Rattle.std.proofs.Common.{length, sym, ap, ◌∙◌, arith, length-append}
use Rattle.std.specs.Slice.Iter.{chunks_rest}
use Rattle.std.proofs.lemmas.Result.{err_from_is_err_and}
use Rattle.script.proofs.ValueLaws.{octet-two}
use Rattle.script.proofs.LineLaws.{stored-length, pairs-bad, pairs-more, pairs-done}
use Rattle.script.proofs.with_pairs.Goals as goal

pub returns-in_err-octet : goal.returns-in_err-octet
returns-in_err-octet c =
    let p = err_from_is_err_and c.from_residual.result c.from_residual.ensures.1 in
    let turn = c.in-Some.ensures.steps.1 in
    let size = rw c.loop-pair.invariant.two at turn.1 in
    rw (p.1, p.2)
    (pairs-bad c.args.asked _ _ _ _ c.loop-pair.invariant.same _ _ turn.0 size turn.2 (sym c.in_err-octet.ensures))

pub loop-pair-preserved : goal.loop-pair-preserved
loop-pair-preserved c =
    let turn = c.in-Some.ensures.steps.1 in
    let size = rw c.loop-pair.invariant.two at turn.1 in
    let value = sym c.in_ok-octet.ensures in
    let pair = octet-two _ _ value in record {
      two = c.in-Some.ensures.steps.0 ∙ c.loop-pair.invariant.two;
      room = omega (arith, c.loop-pair.invariant.room, ap length turn.0 ∙ length-append c.in-Some.pair.now (chunks_rest c.next.new.self), pair);
      row = stored-length _ _ _ c.put.ensures ∙ c.loop-pair.invariant.row;
      same = pairs-more c.args.asked _ _ _ _ c.loop-pair.invariant.same _ _ turn.0 size turn.2 value c.put.ensures;
    }

pub returns : goal.returns
returns c =
    c.with_octets.ensures ∙ pairs-done c.args.asked _ _ _ _ c.loop-pair.invariant.same c.in-None.ensures.steps.1.0
