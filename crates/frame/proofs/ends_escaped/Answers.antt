-- `frame::ends_escaped` meets its promise: the last octet, where there is one. Assumes nothing.
use mathlib.Core.Path.{refl, ◌∙◌}
use Rattle.frame.proofs.Lines.{ends-is}
use Rattle.frame.proofs.ends_escaped.Goals as goal

pub returns : goal.returns
returns c = c.eq.ensures ∙ ends-is _ _ _ c.last.ensures.value refl
