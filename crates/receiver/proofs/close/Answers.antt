-- `receiver::close` meets its promise. Assumes nothing.
use mathlib.Core.Path.{sym}
use native.Mathlib.Omega.{arith}
use lib.ListN.{length-take}
use Rattle.refusal.specs.declared.Refusal.TheVariants.{TooLong, Broken}
use Rattle.refusal.proofs.Answers.{refused, hands-is}
use Rattle.receiver.proofs.Ends.{says-broken, says-more, says-framed}
use Rattle.receiver.proofs.close.Goals as goal

pub returns-then-receiver : goal.returns-then-receiver
returns-then-receiver c = refused Broken (says-broken _ _ _ _ c.if-receiver.true)

pub returns-then-receiver-2 : goal.returns-then-receiver-2
returns-then-receiver-2 c = refused TooLong (says-more _ _ _ _ c.if-receiver.false c.if-receiver-2.true)

pub slice_bounds-deliver-end : goal.slice_bounds-deliver-end
slice_bounds-deliver-end c =
    let pre = c.requires in
    simp length-take (omega (arith, pre.0, pre.1))

pub returns : goal.returns
returns c =
    hands-is (sym (says-framed _ _ _ _ c.if-receiver.false c.if-receiver-2.false)) c.deliver.ensures
