-- The promise of `write` allows one answer and one content of the lent output. Assumes nothing.
use Rattle.refusal.proofs.Only.{hands-only}
use Rattle.octets.proofs.Only.{AsksNothing, SettlesAll}
use Rattle.writer.proofs.write.Reads as write-reads

pub write-only : SettlesAll write-reads.Learnt (λ κs s. s.1.1.1.1.0.now)
write-only κs a r q s t = hands-only

pub write-asks : AsksNothing write-reads.Asked
write-asks κs a = tt
