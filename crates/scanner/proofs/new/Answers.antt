-- `scanner::new` meets its promise: its state is what the limit gives. Assumes nothing.
use Rattle.scan.specs.Scan.{fresh}
use Rattle.scanner.proofs.new.Goals as goal

pub returns : goal.returns
unfolding fresh
returns c = rw c.standing.ensures
