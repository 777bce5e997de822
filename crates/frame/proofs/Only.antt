-- The promises of `deliver` and `decode` allow one answer and one content of the lent output. Assumes nothing.
use Rattle.refusal.proofs.Only.{hands-only}
use Rattle.octets.proofs.Only.{AsksNothing, SettlesAll}
use Rattle.frame.proofs.decode.Reads as decode-reads
use Rattle.frame.proofs.deliver.Reads as deliver-reads

pub decode-only : SettlesAll decode-reads.Learnt (λ κs s. s.1.1.0.now)
decode-only κs a r q s t = hands-only

pub decode-asks : AsksNothing decode-reads.Asked
decode-asks κs a = tt

pub deliver-only : SettlesAll deliver-reads.Learnt (λ κs s. s.1.1.0.now)
deliver-only κs a r q s t = hands-only

pub deliver-asks : AsksNothing deliver-reads.Asked
deliver-asks κs a = tt
