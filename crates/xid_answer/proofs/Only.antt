-- Each promise of this crate allows one result. Assumes nothing.
use Rattle.octets.proofs.Only.{only}
use Rattle.octets.proofs.Only.{AsksNothing, Settles}
use Rattle.xid_answer.proofs.scan_answer.Reads as scan-answer-reads
use Rattle.xid_answer.proofs.assignment_answer.Reads as assignment-answer-reads
use Rattle.xid_answer.proofs.negotiation_answer.Reads as negotiation-answer-reads

pub scan-answer-only : Settles scan-answer-reads.Learnt
scan-answer-only κs a r q s t = only

pub assignment-answer-only : Settles assignment-answer-reads.Learnt
assignment-answer-only κs a r q s t = only

pub negotiation-answer-only : Settles negotiation-answer-reads.Learnt
negotiation-answer-only κs a r q s t = only

pub scan-answer-asks : AsksNothing scan-answer-reads.Asked
scan-answer-asks κs a = tt

pub assignment-answer-asks : AsksNothing assignment-answer-reads.Asked
assignment-answer-asks κs a = tt

pub negotiation-answer-asks : AsksNothing negotiation-answer-reads.Asked
negotiation-answer-asks κs a = tt
