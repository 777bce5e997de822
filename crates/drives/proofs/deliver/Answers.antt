-- `drives::deliver` meets its promise: the device at its place hears. Assumes nothing.
use native.Mathlib.Omega.{arith}
use Rattle.record.specs.Fresh.{blank_device}
use Rattle.drives.proofs.Ways.{stands, tells_at}
use Rattle.drives.proofs.deliver.Goals as goal

pub returns : goal.returns
returns c =
    let a = c.args in
    tells_at a.row.now a.place a.command a.octets.now _
    (stands a.row.now.devices a.place _ blank_device (omega (arith, c.requires))) c.listen.ensures
