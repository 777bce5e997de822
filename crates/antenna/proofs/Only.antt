-- Each promise of this crate is one equation, so it allows one result. Assumes nothing.
use Rattle.octets.proofs.Only.{only, AsksNothing, Settles}
use Rattle.antenna.proofs.busy.Reads as busy-reads
use Rattle.antenna.proofs.differ.Reads as differ-reads

pub busy-only : Settles busy-reads.Learnt
busy-only κs a r q s t = only

pub differ-only : Settles differ-reads.Learnt
differ-only κs a r q s t = only

pub busy-asks : AsksNothing busy-reads.Asked
busy-asks κs a = tt

pub differ-asks : AsksNothing differ-reads.Asked
differ-asks κs a = tt
