-- The promise of this crate is one equation, so it allows one result. Assumes nothing.
use Rattle.octets.proofs.Only.{only}
use Rattle.octets.proofs.Only.{AsksNothing, Settles}
use Rattle.negotiation.proofs.read.Reads as read-reads

pub read_only : Settles read-reads.Learnt
read_only κs a r q s t = only

pub read-asks : AsksNothing read-reads.Asked
read-asks κs a = tt
