-- Each promise of this crate is one equation, so it allows one result. Assumes nothing.
use Rattle.octets.proofs.Only.{only}
use Rattle.octets.proofs.Only.{AsksNothing, Settles}
use Rattle.control.proofs.next.Reads as next-reads
use Rattle.control.proofs.info.Reads as info-reads
use Rattle.control.proofs.rr.Reads as rr-reads

pub next-only : Settles next-reads.Learnt
next-only κs a r q s t = only

pub info-only : Settles info-reads.Learnt
info-only κs a r q s t = only

pub rr-only : Settles rr-reads.Learnt
rr-only κs a r q s t = only

pub next-asks : AsksNothing next-reads.Asked
next-asks κs a = tt

pub info-asks : AsksNothing info-reads.Asked
info-asks κs a = tt

pub rr-asks : AsksNothing rr-reads.Asked
rr-asks κs a = tt
