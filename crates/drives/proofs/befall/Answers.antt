-- `drives::befall` meets its promise: the event happens to the device at its place. Assumes nothing.
use native.Mathlib.Omega.{arith}
use Rattle.record.specs.Fresh.{blank_device}
use Rattle.drives.proofs.Ways.{stands, befalls-at}
use Rattle.drives.proofs.befall.Goals as goal

pub returns : goal.returns
returns c =
    let a = c.args in
    befalls-at a.row.now a.place a.command a.value
    (stands a.row.now.devices a.place _ blank_device (omega (arith, c.requires))) c.happen.ensures
