-- `drive` meets its promise: what `drives` promises, of the octets that the line has. Assumes nothing.
use Rattle.bench.proofs.Laws.{driven-said, driven-row}
use Rattle.bench.proofs.drive.Goals as goal

pub returns : goal.returns
returns c =
    let a = c.args in
    let said = driven-said a.asked.command a.row a.asked c.part-hex.ensures c.min-room.ensures c.obey-answer.ensures in
    record { row = driven-row a.asked.command a.row a.asked said; said = said }
