-- The promises of this crate allow one result each. Assumes nothing.
use Rattle.octets.proofs.Only.{AsksNothing, Settles, only}
use Rattle.refusal.proofs.Only.{made-only}
use Rattle.fresh.proofs.blank.Reads as blank-reads
use Rattle.fresh.proofs.fresh.Reads as fresh-reads

pub blank-only : Settles blank-reads.Learnt
blank-only κs a r q s t = only

pub fresh-only : Settles fresh-reads.Learnt
fresh-only κs a r q s t = made-only r q

pub blank-asks : AsksNothing blank-reads.Asked
blank-asks κs a = tt

pub fresh-asks : AsksNothing fresh-reads.Asked
fresh-asks κs a = tt
