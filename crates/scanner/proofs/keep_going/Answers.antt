-- `scanner::keep_going` meets its promise: the state is what its count and its limit give. Assumes nothing.
use mathlib.Core.Path.{ap, ◌∙◌}
use Rattle.scan.specs.Steps.{in_state}
use Rattle.scanner.proofs.keep_going.Goals as goal

pub returns : goal.returns
returns c = c.in_state.ensures ∙ ap (in_state c.args.scan) c.standing.ensures
