-- `Text::of` meets its promise: the octets are stored from the start. Assumes nothing.
use Rattle.octets.proofs.Texts.{stored-laid}
use Rattle.octets.proofs.Text.of.Goals as goal

pub returns : goal.returns
returns g c = stored-laid g.row.N c.args.s.now c.fewer-len.ensures c.put_all.ensures
