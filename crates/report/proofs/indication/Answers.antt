-- `report::indication` meets its promise: what was stored, read back, is the data. Assumes nothing.
use mathlib.Core.Path.{◌∙◌}
use native.Mathlib.Omega.{arith}
use lib.ListN.{length-take}
use Rattle.report.specs.Reports.{indication_of}
use Rattle.payload.proofs.Backs.{laid-back}
use Rattle.report.proofs.Parts.{changes-few}
use Rattle.report.proofs.indication.Goals as goal

pub slice_bounds-body-end : goal.slice_bounds-body-end
slice_bounds-body-end c = omega (arith, changes-few _ _ c.put_changes-n.ensures)

pub slice_bounds-laid-end : goal.slice_bounds-laid-end
slice_bounds-laid-end c = simp length-take (omega (arith, changes-few _ _ c.put_changes-n.ensures))

pub returns : goal.returns
unfolding indication_of
returns c =
    let stored = c.put_changes-n.ensures in
    let few = changes-few _ _ stored in
    c.laid.ensures ∙ laid-back _ _ _ (omega (arith, few)) (omega (arith, few)) stored
