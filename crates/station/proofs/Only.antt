-- Each promise of this crate is one equation, so it allows one result. Assumes nothing.
use Rattle.octets.proofs.Only.{only}
use Rattle.octets.proofs.Only.{AsksNothing, Settles}
use Rattle.station.proofs.resend.Reads as resend-reads
use Rattle.station.proofs.answer.Reads as answer-reads

pub resend-only : Settles resend-reads.Learnt
resend-only κs a r q s t = only

pub answer-only : Settles answer-reads.Learnt
answer-only κs a r q s t = only

pub resend-asks : AsksNothing resend-reads.Asked
resend-asks κs a = tt

pub answer-asks : AsksNothing answer-reads.Asked
answer-asks κs a = tt
