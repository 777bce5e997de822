-- `drives::fresh` meets its promise: the texts and the tilts of its words. Assumes nothing.
use Rattle.drives.proofs.Ways.{fresh-by}
use Rattle.drives.proofs.fresh.Goals as goal

pub returns : goal.returns
returns c =
    let parts = c in
    let a = parts.args in
    fresh-by a.values a.octets.now c.fresh.result parts.part.ensures parts.part-2.ensures
    parts.part-3.ensures parts.part-4.ensures c.tilt_of.ensures
    c.tilt_of-2.ensures c.tilt_of-3.ensures c.fresh.ensures
