-- `xid_answer::assignment_answer` meets its promise: what was put stands at the start of zeros. Assumes nothing.
use Rattle.xid_answer.proofs.Stored.{assignment-held}
use Rattle.xid_answer.proofs.assignment_answer.Goals as goal

pub returns : goal.returns
returns c = rw c.octets.ensures.all at (assignment-held _ c.octets.ensures.few c.put_assignment_answer-len.ensures)
