-- The promise of this crate allows one result. Assumes nothing.
use Rattle.octets.proofs.Only.{only}
use Rattle.octets.proofs.Only.{AsksNothing, Settles}
use Rattle.compare.proofs.same.Reads as same_Reads

pub same-only : Settles same_Reads.Learnt
same-only κs a r q s t = only

pub same-asks : AsksNothing same_Reads.Asked
same-asks κs a = tt
