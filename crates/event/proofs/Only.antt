-- The promise of this crate allows one result, and one device after it. Assumes nothing.
use Rattle.refusal.proofs.Only.{changes-only}
use Rattle.octets.proofs.Only.{AsksNothing, SettlesAll}
use Rattle.event.proofs.happen.Reads as happen-reads

pub happen-only : SettlesAll happen-reads.Learnt (λ κs s. s.0.now)
happen-only κs a r q s t = changes-only

pub happen-asks : AsksNothing happen-reads.Asked
happen-asks κs a = tt
