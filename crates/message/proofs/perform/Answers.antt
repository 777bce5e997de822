-- `message::perform` meets its promise: what set and get tilt promise of any device. Assumes nothing.
use Rattle.message.specs.Messages.{code_for}
use Rattle.message.proofs.perform.Goals as goal

pub returns-in-SetTilt : goal.returns-in-SetTilt
unfolding code_for
returns-in-SetTilt c = rw c.in-SetTilt.is (c.set_tilt.ensures _)

pub returns-in-GetTilt : goal.returns-in-GetTilt
unfolding code_for
returns-in-GetTilt c = rw c.in-GetTilt.is (c.get_tilt.ensures _ _)
