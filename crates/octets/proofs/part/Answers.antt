-- `part` meets its promise: no more octets than there are. Assumes nothing.
use Rattle.octets.proofs.Takes.{part-is}
use Rattle.octets.proofs.part.Goals as goal

pub returns : goal.returns
returns c =
    let a = c.args in
    part-is a.from a.end a.s.now c.min-last.ensures c.min-first.ensures
