-- `frame::deliver` meets its promise: a law of `Judge` for each way out. Assumes nothing.
use native.Mathlib.Omega.{arith}
use lib.ListN.{length-take}
use mathlib.Core.Path.{sym}
use Rattle.refusal.specs.declared.Refusal.TheVariants.{TooShort, TooLong, WrongCheck}
use Rattle.refusal.proofs.Answers.{refused, hands-is}
use Rattle.frame.specs.Decode.{body}
use Rattle.frame.proofs.Judge.{short, long, wrong, right, check-differs, check-agrees}
use Rattle.frame.proofs.deliver.Goals as goal

pub returns-then-n-lt4 : goal.returns-then-n-lt4
returns-then-n-lt4 c = refused TooShort (short _ _ _ (omega arith))

pub returns-then-limit-n : goal.returns-then-limit-n
returns-then-limit-n c = refused TooLong (long _ _ _ (omega arith) c.if-limit-n.true)

pub slice_bounds-check-end : goal.slice_bounds-check-end
slice_bounds-check-end c = simp length-take (omega arith)

pub returns-then-check-given : goal.returns-then-check-given
returns-then-check-given c =
    let differs = check-differs _ c.check-check.ensures c.pair-given.ensures c.if-check-given.true in
    refused WrongCheck (wrong _ _ _ (omega arith) c.if-limit-n.false differs)

pub slice_bounds-hand_out-end : goal.slice_bounds-hand_out-end
slice_bounds-hand_out-end c = simp length-take (omega arith)

pub returns : goal.returns
unfolding body
returns c =
    let agrees = check-agrees _ c.check-check.ensures c.pair-given.ensures c.if-check-given.false in
    hands-is (sym (right _ _ _ (omega arith) c.if-limit-n.false agrees))
    c.hand_out.ensures
