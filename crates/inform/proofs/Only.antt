-- The promise of this crate is one equation, so it allows one result. Assumes nothing.
use Rattle.octets.proofs.Only.{only}
use Rattle.octets.proofs.Only.{AsksNothing, Settles}
use Rattle.inform.proofs.inform.Reads as inform-reads

pub inform-only : Settles inform-reads.Learnt
inform-only κs a r q s t = only

pub inform-asks : AsksNothing inform-reads.Asked
inform-asks κs a = tt
