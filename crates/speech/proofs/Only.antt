-- The promise of this crate holds an equation, so it allows one result. Assumes nothing.
use Rattle.octets.proofs.Only.{only}
use Rattle.octets.proofs.Only.{AsksNothing, Settles}
use Rattle.speech.proofs.speak.Reads as speak-reads

pub speak-only : Settles speak-reads.Learnt
speak-only κs a r q s t x y = only x.0 y.0

pub speak-asks : AsksNothing speak-reads.Asked
speak-asks κs a = tt
