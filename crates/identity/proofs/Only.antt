-- Each promise of this crate allows one result. Assumes nothing.
use Rattle.octets.proofs.Only.{only}
use Rattle.octets.proofs.Only.{AsksNothing, Settles}
use Rattle.identity.proofs.allowed.Reads as allowed-reads
use Rattle.identity.proofs.octets_of.Reads as octets-of-reads

pub allowed-only : Settles allowed-reads.Learnt
allowed-only κs a r q s t = only

pub octets-of-only : Settles octets-of-reads.Learnt
octets-of-only κs a r q s t = only

pub allowed-asks : AsksNothing allowed-reads.Asked
allowed-asks κs a = tt

pub octets-of-asks : AsksNothing octets-of-reads.Asked
octets-of-asks κs a = tt
