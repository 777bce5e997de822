-- `scanner::move_on` meets its promise: done where no bit is left, else the last is made a one. Assumes nothing.
use mathlib.Core.Path.{◌∙◌}
use Rattle.scan.proofs.Moves.{moved_none, moved-some}
use Rattle.scanner.proofs.move_on.Goals as goal

pub returns-then-n-eq0 : goal.returns-then-n-eq0
returns-then-n-eq0 c =
    let start = c.args in
    c.in_state.ensures
    ∙ moved_none start.scan start.n start.quiet start.doubt c.if-n-eq0.true
    c.finished.ensures

pub returns : goal.returns
returns c =
    let start = c.args in
    c.keep_going.ensures
    ∙ moved-some start.scan start.n start.quiet start.doubt c.if-n-eq0.false
