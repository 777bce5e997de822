-- `drives::add` meets its promise: each way out, by the tests that lead to it. Assumes nothing.
use native.Mathlib.Omega.{arith}
use Rattle.octets.proofs.Rules.{tests}
use mathlib.Core.Path.{◌∙◌}
use Rattle.refusal.specs.Answer.{outcome_of}
use Rattle.drives.specs.Drives.{reply_of, adds}
use Rattle.drives.proofs.Ways.{adds-open, adds-shut}
use Rattle.drives.proofs.add.Goals as goal

pub returns-then-row-ge-MOST : goal.returns-then-row-ge-MOST
unfolding adds reply_of
returns-then-row-ge-MOST c = search tests

pub returns-then-are_tilts : goal.returns-then-are_tilts
returns-then-are_tilts c =
    let a = c.args in
    c.make.ensures
    ∙ adds-open a.row.now a.values a.octets.now (omega arith) c.are_tilts.ensures c.if-are_tilts.true

pub returns : goal.returns
unfolding reply_of outcome_of
returns c =
    let a = c.args in
    adds-shut a.row.now a.values a.octets.now (omega arith) c.are_tilts.ensures c.if-are_tilts.false
