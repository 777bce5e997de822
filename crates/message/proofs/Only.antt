-- The promise of this crate allows one result. Assumes nothing.
use Rattle.octets.proofs.Only.{only}
use Rattle.octets.proofs.Only.{AsksNothing, Settles}
use Rattle.message.proofs.carry.Reads as carry-reads

pub carry-only : Settles carry-reads.Learnt
carry-only κs a r q s t = only

pub carry-asks : AsksNothing carry-reads.Asked
carry-asks κs a = tt
