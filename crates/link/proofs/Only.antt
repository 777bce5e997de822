-- The promise of this crate is one equation, so it allows one result. Assumes nothing.
use Rattle.octets.proofs.Only.{only}
use Rattle.octets.proofs.Only.{AsksNothing, Settles}
use Rattle.link.proofs.judge_frame.Reads as judge-frame-reads

pub judge-frame-only : Settles judge-frame-reads.Learnt
judge-frame-only κs a r q s t = only

pub judge-frame-asks : AsksNothing judge-frame-reads.Asked
judge-frame-asks κs a = tt
