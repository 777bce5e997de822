-- `report::alarms` meets its promise: what was stored, read back, is the data. Assumes nothing.
use mathlib.Core.Path.{◌∙◌}
use native.Mathlib.Omega.{arith}
use lib.ListN.{length-take}
use Rattle.payload.specs.Payloads.{success_of}
use Rattle.payload.proofs.Backs.{laid-back}
use Rattle.report.proofs.Parts.{codes-few}
use Rattle.report.proofs.alarms.Goals as goal

pub slice_bounds-body-end : goal.slice_bounds-body-end
slice_bounds-body-end c = omega (arith, codes-few _ c.put_codes-n.ensures)

pub slice_bounds-laid-end : goal.slice_bounds-laid-end
slice_bounds-laid-end c = simp length-take (omega (arith, codes-few _ c.put_codes-n.ensures))

pub returns : goal.returns
unfolding success_of
returns c =
    let stored = c.put_codes-n.ensures in
    let few = codes-few _ stored in
    c.laid.ensures ∙ laid-back _ _ _ (omega (arith, few)) (omega (arith, few)) stored
