-- `message::attempt` meets its promise: the message's own checks decide, or the drive's and the table. Assumes nothing.
use Rattle.message.proofs.Judged.{attempt-failed, attempt-passed}
use Rattle.message.proofs.attempt.Goals as goal

pub returns-in_err-procedure : goal.returns-in_err-procedure
returns-in_err-procedure c = attempt-failed _ _ _ _ _ _ _ c.in_err-procedure.ensures.number c.from_residual.ensures.1

pub returns : goal.returns
returns c =
    attempt-passed _ _ _ _ _ _ c.in_ok-procedure.ensures.number c.in_ok-procedure.ensures.asks c.asked.ensures c.perform.ensures
