-- Each promise of this crate allows one result. Assumes nothing.
use Rattle.octets.proofs.Only.{only}
use Rattle.octets.proofs.Only.{AsksNothing, Settles}
use Rattle.payload.proofs.laid.Reads as laid-reads
use Rattle.payload.proofs.failure.Reads as failure-reads
use Rattle.payload.proofs.done.Reads as done-reads

pub laid-only : Settles laid-reads.Learnt
laid-only κs a r q s t = only

pub failure-only : Settles failure-reads.Learnt
failure-only κs a r q s t = only

pub done-only : Settles done-reads.Learnt
done-only κs a r q s t = only

pub laid-asks : AsksNothing laid-reads.Asked
laid-asks κs a = tt

pub failure-asks : AsksNothing failure-reads.Asked
failure-asks κs a = tt

pub done-asks : AsksNothing done-reads.Asked
done-asks κs a = tt
