-- `message::set_tilt` meets its promise: what becomes of the aim is what comes of the message. Assumes nothing.
use Rattle.message.proofs.Judged.{refused-is, started-is}
use Rattle.message.proofs.set_tilt.Goals as goal

pub returns-in_err-aim_at : goal.returns-in_err-aim_at
returns-in_err-aim_at c p = refused-is _ _ _ p _ _ c.in_err-aim_at.ensures c.from_residual.ensures.1

pub returns : goal.returns
returns c p = started-is _ _ _ p _ c.in_ok-aim_at.ensures c.silent.ensures
