-- Each promise of this crate allows one result, and one antenna after it. Assumes nothing.
use Rattle.octets.proofs.Only.{only}
use Rattle.antenna.proofs.Aims.{aims-only}
use Rattle.octets.proofs.Only.{AsksNothing, Settles, SettlesAll}
use Rattle.aim.proofs.at_most.Reads as at-most-reads
use Rattle.aim.proofs.in_range.Reads as in-range-reads
use Rattle.aim.proofs.aim_at.Reads as aim-at-reads

pub at-most-only : Settles at-most-reads.Learnt
at-most-only κs a r q s t = only

pub in-range-only : Settles in-range-reads.Learnt
in-range-only κs a r q s t = only

pub aim-at-only : SettlesAll aim-at-reads.Learnt (λ κs s. s.0.now)
aim-at-only κs a r q s t = aims-only

pub at-most-asks : AsksNothing at-most-reads.Asked
at-most-asks κs a = tt

pub in-range-asks : AsksNothing in-range-reads.Asked
in-range-asks κs a = tt

pub aim-at-asks : AsksNothing aim-at-reads.Asked
aim-at-asks κs a = tt
