-- Each promise of this crate is one equation, so it allows one result. Assumes nothing.
use Rattle.octets.proofs.Only.{only}
use Rattle.octets.proofs.Only.{AsksNothing, Settles}
use Rattle.acknowledge.proofs.session_after.Reads as session-after-reads
use Rattle.acknowledge.proofs.device_after.Reads as device-after-reads

pub session-after-only : Settles session-after-reads.Learnt
session-after-only κs a r q s t = only

pub device-after-only : Settles device-after-reads.Learnt
device-after-only κs a r q s t = only

pub session-after-asks : AsksNothing session-after-reads.Asked
session-after-asks κs a = tt

pub device-after-asks : AsksNothing device-after-reads.Asked
device-after-asks κs a = tt
