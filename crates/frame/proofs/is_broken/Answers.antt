-- `frame::is_broken` meets its promise: one test after the other. Assumes nothing.
use Rattle.frame.specs.Line.{broken}
use Rattle.frame.proofs.is_broken.Goals as goal

pub returns-then-has_flag : goal.returns-then-has_flag
unfolding broken
returns-then-has_flag c = rw (← c.has_flag.ensures, c.if-has_flag.true)

pub returns-else-has_flag : goal.returns-else-has_flag
unfolding broken
returns-else-has_flag c = rw (← c.has_flag.ensures, c.if-has_flag.false) c.ends_escaped.ensures
