-- `fresh::fresh_from` meets its promise: the plate and the antenna, with the station of a fresh device. Assumes nothing.
use mathlib.Core.Path.{refl}
use Rattle.record.specs.Fresh.{fresh_from}
use Rattle.fresh.proofs.fresh_from.Goals as goal

pub returns : goal.returns
unfolding fresh_from
returns c = refl
