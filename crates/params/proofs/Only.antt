-- Each promise of this crate allows one result. Assumes nothing.
use mathlib.Core.Path.{◌≡◌}
use Rattle.octets.proofs.Only.{only}
use Rattle.octets.proofs.Only.{AsksNothing, Settles}
use Rattle.params.proofs.walk.Reads as walk-reads
use Rattle.params.proofs.part_at.Reads as part-at-reads
use Rattle.params.proofs.value_at.Reads as value-at-reads

pub walk-only : Settles walk-reads.Learnt
walk-only κs a r q s t = only

pub part-at-only : Settles part-at-reads.Learnt
part-at-only κs a r q s t = only

pub value-at-only : (κs : _) (a : _) (r q : _) (s t : _) → value-at-reads.Learnt κs a r s → value-at-reads.Learnt κs a q t
    → r.now ≡ q.now
value-at-only κs a r q s t = only

pub walk-asks : AsksNothing walk-reads.Asked
walk-asks κs a = tt

pub part-at-asks : AsksNothing part-at-reads.Asked
part-at-asks κs a = tt

pub value-at-asks : AsksNothing value-at-reads.Asked
value-at-asks κs a = tt
