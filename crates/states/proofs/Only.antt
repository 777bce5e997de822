-- The promise of this crate is one equation, so it allows one result. Assumes nothing.
use Rattle.octets.proofs.Only.{only}
use Rattle.octets.proofs.Only.{AsksNothing, Settles}
use Rattle.states.proofs.linked.Reads as linked-reads

pub linked-only : Settles linked-reads.Learnt
linked-only κs a r q s t = only

pub linked-asks : AsksNothing linked-reads.Asked
linked-asks κs a = tt
