-- `drives::obey` meets its promise: each way out, by the tests that lead to it. Assumes nothing.
use mathlib.Core.Path.{refl}
use Rattle.drives.proofs.Ways.{obeys-by, obeyed-device, obeyed-adds, obeys-none}
use borrow.Author.Rules.{rules}
use Rattle.drives.proofs.obey.Goals as goal

pub returns-then-is_for_device : goal.returns-then-is_for_device
returns-then-is_for_device c =
    let at = c in
    let a = at.args in
    let obeys = obeys-by
    (obeyed-device a.command a.row.now a.octets.now a.lent.now a.values at.is_for_device.ensures
    c.if-is_for_device.true)
    c.to_device.ensures in
    search rules

pub returns-then-command-eq-DEVICE : goal.returns-then-command-eq-DEVICE
returns-then-command-eq-DEVICE c =
    let at = c in
    let a = at.args in
    let obeys = obeys-by
    (obeyed-adds a.command a.row.now a.octets.now a.lent.now a.values at.is_for_device.ensures
    c.if-is_for_device.false c.if-command-eq-DEVICE.true)
    (record { after = c.add.ensures; lent = refl }) in
    search rules

pub returns : goal.returns
returns c =
    let at = c in
    let a = at.args in
    let obeys = obeys-none a.command a.row.now a.octets.now a.lent.now a.values at.is_for_device.ensures
    c.if-is_for_device.false c.if-command-eq-DEVICE.false in
    search rules
