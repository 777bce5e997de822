-- `drives::tell_limit` meets its promise: the limit of the device at its place. Assumes nothing.
use native.Mathlib.Omega.{arith}
use Rattle.record.specs.Fresh.{blank_device}
use Rattle.drives.specs.Drives.{reply_of}
use Rattle.drives.proofs.Ways.{stands, limit-at}
use Rattle.drives.proofs.tell_limit.Goals as goal

pub returns : goal.returns
unfolding reply_of
returns c =
    let a = c.args in
    limit-at a.row.now a.place (stands a.row.now.devices a.place _ blank_device (omega (arith, c.requires)))
