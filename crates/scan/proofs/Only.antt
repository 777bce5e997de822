-- Each promise of this crate allows one result, and one content of the lent output. Assumes nothing.
use Rattle.octets.proofs.Only.{only}
use Rattle.refusal.proofs.Only.{hands-only}
use Rattle.octets.proofs.Only.{AsksNothing, Settles, SettlesAll}
use Rattle.scan.proofs.is_over.Reads as is-over-reads
use Rattle.scan.proofs.probe.Reads as probe-reads

pub is-over-only : Settles is-over-reads.Learnt
is-over-only κs a r q s t = only

pub probe-only : SettlesAll probe-reads.Learnt (λ κs s. s.1.0.now)
probe-only κs a r q s t = hands-only

pub is-over-asks : AsksNothing is-over-reads.Asked
is-over-asks κs a = tt

pub probe-asks : AsksNothing probe-reads.Asked
probe-asks κs a = tt
