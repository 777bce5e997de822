-- The promise of this crate is one equation, so it allows one result. Assumes nothing.
use Rattle.octets.proofs.Only.{only}
use Rattle.octets.proofs.Only.{AsksNothing, Settles}
use Rattle.poll.proofs.poll.Reads as poll-reads

pub poll-only : Settles poll-reads.Learnt
poll-only κs a r q s t = only

pub poll-asks : AsksNothing poll-reads.Asked
poll-asks κs a = tt
