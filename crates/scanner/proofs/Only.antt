-- Each promise of this crate allows one result, and one scan after it. Assumes nothing.
use Rattle.octets.proofs.Only.{only}
use Rattle.refusal.proofs.Only.{changes-only}
use Rattle.octets.proofs.Only.{AsksNothing, Settles, SettlesAll}
use Rattle.scanner.proofs.new.Reads as new-reads
use Rattle.scanner.proofs.report.Reads as report-reads

pub new-only : Settles new-reads.Learnt
new-only κs a r q s t = only

pub report-only : SettlesAll report-reads.Learnt (λ κs s. s.0.now)
report-only κs a r q s t = changes-only

pub new-asks : AsksNothing new-reads.Asked
new-asks κs a = tt

pub report-asks : AsksNothing report-reads.Asked
report-asks κs a = tt
