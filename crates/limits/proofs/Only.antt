-- Each promise of this crate is one equation, so it allows one result. Assumes nothing.
use Rattle.octets.proofs.Only.{only, AsksNothing, Settles}
use Rattle.limits.proofs.is_limit.Reads as is-limit-reads
use Rattle.limits.proofs.frame_most.Reads as frame-most-reads

pub is-limit-only : Settles is-limit-reads.Learnt
is-limit-only κs a r q s t = only

pub frame-most-only : Settles frame-most-reads.Learnt
frame-most-only κs a r q s t = only

pub is-limit-asks : AsksNothing is-limit-reads.Asked
is-limit-asks κs a = tt

pub frame-most-asks : AsksNothing frame-most-reads.Asked
frame-most-asks κs a = tt
