-- `xid_answer::put_param` meets its promise: identifier and length, and the value behind them.
-- Assumes nothing.
use Rattle.xid_answer.proofs.Stored.{param-stored}
use Rattle.xid_answer.proofs.put_param.Goals as goal

pub returns : goal.returns
returns c =
    let a = c.args in
    param-stored a.at a.id a.value.now _ c.put_all.ensures c.put_all-2.ensures
