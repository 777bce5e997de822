-- Each promise of this crate allows one result. Assumes nothing.
use Rattle.octets.proofs.Only.{only}
use Rattle.octets.proofs.Only.{AsksNothing, Settles}
use Rattle.tilt.proofs.angle.Reads as angle-reads
use Rattle.tilt.proofs.tilt.Reads as tilt-reads

pub angle-only : Settles angle-reads.Learnt
angle-only κs a r q s t = only

pub tilt-only : Settles tilt-reads.Learnt
tilt-only κs a r q s t = only

pub angle-asks : AsksNothing angle-reads.Asked
angle-asks κs a = tt

pub tilt-asks : AsksNothing tilt-reads.Asked
tilt-asks κs a = tt
