-- `poll::waiting` meets its promise: a result waits in a motion that has stopped, and in no other. Assumes nothing.
use Rattle.antenna.specs.Motions.{waiting_of}
use Rattle.antenna.proofs.Awaits.{awaits, none_waits}
use Rattle.poll.proofs.waiting.Goals as goal

pub returns-in-Stopped : goal.returns-in-Stopped
unfolding waiting_of
returns-in-Stopped c = awaits (rw c.in-Stopped.is)

pub returns-in_default : goal.returns-in_default
returns-in_default c = awaits (none_waits _ c.in_default.not-Stopped)
