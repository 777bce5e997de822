-- `salvager::Sieve::sift` ends: each call takes an octet at least, or the loop is over. Assumes nothing.
use Rattle.std.proofs.Common.{length}
use Rattle.salvager.proofs.Sieve.sift.Given as goal

abbrev pub invariant-loop-rest : goal.invariant-loop-rest
invariant-loop-rest g l = Unit {0}

abbrev pub decreases-loop-rest : goal.decreases-loop-rest
decreases-loop-rest g l = length l.rest
