-- The promise of this crate allows one result. Assumes nothing.
use Rattle.octets.proofs.Only.{only}
use Rattle.octets.proofs.Only.{AsksNothing, Settles}
use Rattle.information.proofs.information.Reads as information-reads

pub information-only : Settles information-reads.Learnt
information-only κs a r q s t = only

pub information-asks : AsksNothing information-reads.Asked
information-asks κs a = tt
