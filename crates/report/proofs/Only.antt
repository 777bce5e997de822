-- Each promise of this crate allows one result. Assumes nothing.
use Rattle.octets.proofs.Only.{only}
use Rattle.octets.proofs.Only.{AsksNothing, Settles}
use Rattle.report.proofs.alarms.Reads as alarms-reads
use Rattle.report.proofs.indication.Reads as indication-reads

pub alarms-only : Settles alarms-reads.Learnt
alarms-only κs a r q s t = only

pub indication-only : Settles indication-reads.Learnt
indication-only κs a r q s t = only

pub alarms-asks : AsksNothing alarms-reads.Asked
alarms-asks κs a = tt

pub indication-asks : AsksNothing indication-reads.Asked
indication-asks κs a = tt
