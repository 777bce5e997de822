-- Each promise of this crate allows one result. Assumes nothing.
use mathlib.Core.Path.{◌≡◌}
use Rattle.octets.proofs.Only.{only, AsksNothing, Settles}
use Rattle.terms.proofs.word.Reads as word-reads
use Rattle.terms.proofs.behind.Reads as behind-reads

pub word-only : (κs : _) (a : _) (r q : _) (s t : _) → word-reads.Learnt κs a r s → word-reads.Learnt κs a q t
    → r.now ≡ q.now
word-only κs a r q s t = only

pub behind-only : Settles behind-reads.Learnt
behind-only κs a r q s t = only

pub word-asks : AsksNothing word-reads.Asked
word-asks κs a = tt

pub behind-asks : AsksNothing behind-reads.Asked
behind-asks κs a = tt
