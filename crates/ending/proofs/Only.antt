-- The promise of this crate is one equation, so it allows one result. Assumes nothing.
use Rattle.octets.proofs.Only.{only, AsksNothing, Settles}
use Rattle.ending.proofs.emptied.Reads as emptied-reads

pub emptied-only : Settles emptied-reads.Learnt
emptied-only κs a r q s t = only

pub emptied-asks : AsksNothing emptied-reads.Asked
emptied-asks κs a = tt
