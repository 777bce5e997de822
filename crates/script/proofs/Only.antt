-- Each promise of this crate allows one result. Assumes nothing.
use Rattle.octets.proofs.Only.{only, AsksNothing, Settles}
use Rattle.script.proofs.read_line.Reads as read-line-reads

pub read-line-only : Settles read-line-reads.Learnt
read-line-only κs a r q s t = only

pub read-line-asks : AsksNothing read-line-reads.Asked
read-line-asks κs a = tt
