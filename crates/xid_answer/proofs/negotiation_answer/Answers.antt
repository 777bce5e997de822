-- `xid_answer::negotiation_answer` meets its promise: what was put stands at the start of zeros. Assumes nothing.
use Rattle.xid_answer.proofs.Stored.{negotiation-held}
use Rattle.xid_answer.proofs.negotiation_answer.Goals as goal

pub returns : goal.returns
returns c =
    let a = c.args in
    negotiation-held a.asked a.limit c.put_negotiation_answer-len.ensures
