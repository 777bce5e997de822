-- Each promise of this crate allows one result. Assumes nothing.
use Rattle.octets.proofs.Only.{only}
use Rattle.octets.proofs.Only.{AsksNothing, Settles}
use Rattle.fcs.proofs.go_on.Reads as go-on-reads
use Rattle.fcs.proofs.check.Reads as check-reads

pub go-on-only : Settles go-on-reads.Learnt
go-on-only κs a r q s t = only

pub check-only : Settles check-reads.Learnt
check-only κs a r q s t = only

pub go-on-asks : AsksNothing go-on-reads.Asked
go-on-asks κs a = tt

pub check-asks : AsksNothing check-reads.Asked
check-asks κs a = tt
