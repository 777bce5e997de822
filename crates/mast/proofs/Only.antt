-- The promise of this crate allows one result. Assumes nothing.
use Rattle.octets.proofs.Only.{only}
use Rattle.octets.proofs.Only.{AsksNothing, Settles}
use Rattle.mast.proofs.sweep.Reads as sweep-reads

pub sweep-only : Settles sweep-reads.Learnt
sweep-only κs a r q s t = only

pub sweep-asks : AsksNothing sweep-reads.Asked
sweep-asks κs a = tt
