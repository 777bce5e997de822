-- `xid_answer::put_if` meets its promise: the triple, or nothing. Assumes nothing.
use Rattle.xid_answer.proofs.Stored.{asked-stored, none-stored}
use Rattle.xid_answer.proofs.put_if.Goals as goal

pub returns-then-asked : goal.returns-then-asked
returns-then-asked c =
    let put = c in
    asked-stored _ _ put.if-asked.true put.put_param.ensures

pub returns : goal.returns
returns c = none-stored _ _ c.if-asked.false
