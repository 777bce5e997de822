-- Each promise of this crate is one equation, so it allows one result. Assumes nothing.
use Rattle.octets.proofs.Only.{only}
use Rattle.octets.proofs.Only.{AsksNothing, Settles}
use Rattle.session.proofs.is_pending.Reads as is-pending-reads
use Rattle.session.proofs.is_acknowledged.Reads as is-acknowledged-reads

pub is-pending-only : Settles is-pending-reads.Learnt
is-pending-only κs a r q s t = only

pub is-acknowledged-only : Settles is-acknowledged-reads.Learnt
is-acknowledged-only κs a r q s t = only

pub is-pending-asks : AsksNothing is-pending-reads.Asked
is-pending-asks κs a = tt

pub is-acknowledged-asks : AsksNothing is-acknowledged-reads.Asked
is-acknowledged-asks κs a = tt
