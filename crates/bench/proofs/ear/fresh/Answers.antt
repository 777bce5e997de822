-- `fresh` meets its promise: a fresh record, and a store of zeros. Assumes nothing.
use mathlib.Core.Path.{ap}
use lib.ListN.{replicate}
use Rattle.receiver.specs.declared.Receiver.{Receiver}
use Rattle.receiver.specs.Held.{held_of, places}
use Rattle.bench.specs.Bench.{fresh_ear}
use Rattle.bench.proofs.ear.fresh.Goals as goal

pub returns : goal.returns
unfolding fresh_ear
returns c = ap (λ (r : Receiver). held_of r (replicate places 0)) c.new.ensures
