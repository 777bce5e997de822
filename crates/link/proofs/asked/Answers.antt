-- `link::asked` meets its promise: each way out, by the tests that lead to it. Assumes nothing.
use Rattle.control.specs.Control.{asked_by}
use mathlib.Core.Path.{sym}
use Rattle.octets.proofs.Rules.{tests}
use Rattle.control.proofs.Named.{asks}
use Rattle.link.proofs.asked.Goals as goal

pub returns-in-191 : goal.returns-in-191
unfolding asked_by
returns-in-191 c = asks (rw c.in-191.is)

pub returns-in-147 : goal.returns-in-147
unfolding asked_by
returns-in-147 c = asks (rw c.in-147.is)

pub returns-in-83 : goal.returns-in-83
unfolding asked_by
returns-in-83 c = asks (rw c.in-83.is)

pub returns-in_default : goal.returns-in_default
unfolding asked_by
returns-in_default c = asks (search (tests, sym c.numbered.ensures, c.in_default))
