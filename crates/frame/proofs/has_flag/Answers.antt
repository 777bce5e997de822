-- `frame::has_flag` meets its promise: the library's test is that of the definition. Assumes nothing.
use mathlib.Core.Path.{◌∙◌}
use Rattle.octets.proofs.Words.{holds-any}
use Rattle.frame.specs.Line.{flag}
use Rattle.frame.proofs.has_flag.Goals as goal

pub returns : goal.returns
returns c = c.contains.ensures.value ∙ holds-any flag c.args.s.now
