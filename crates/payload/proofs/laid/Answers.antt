-- `payload::laid` meets its promise: code and length are stored in front of the data. Assumes nothing.
use Rattle.payload.proofs.Places.{laid-is}
use Rattle.payload.proofs.laid.Goals as goal

pub returns : goal.returns
returns c = laid-is _ _ c.min-n.ensures c.put_all.ensures
