-- `event::rested` meets its promise: each way out, by the tests that lead to it. Assumes nothing.
use Rattle.antenna.specs.Events.{rested_of}
use mathlib.Core.Path.{ap}
use Rattle.antenna.specs.declared.Motion.TheVariants.{Stopped}
use Rattle.std.proofs.Common.{rules}
use Rattle.event.proofs.Same.{same-bits}
use Rattle.octets.proofs.Rules.{tests}
use Rattle.event.proofs.rested.Goals as goal

pub returns-in-Still : goal.returns-in-Still
unfolding rested_of
returns-in-Still c = search (tests, c.in-Still.is)

pub returns-in-Moving : goal.returns-in-Moving
unfolding rested_of
returns-in-Moving c = search (tests, c.in-Moving.is)

pub returns-in-Owing : goal.returns-in-Owing
unfolding rested_of
returns-in-Owing c = rw c.in-Owing.is (ap Stopped (same-bits c.in-Owing.asked c.args.t (search rules) (search rules)))

pub returns-in-Stopped : goal.returns-in-Stopped
unfolding rested_of
returns-in-Stopped c = search (tests, c.in-Stopped.is)
