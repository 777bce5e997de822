-- `fcs::bits_on` meets its promise: a shift, and the entry of the low bits. Assumes nothing.
use Rattle.fcs.proofs.Rule.{by-entry, entry-below, low_bits}
use Rattle.fcs.proofs.bits_on.Goals as goal

pub bounds-table-from : goal.bounds-table-from
bounds-table-from g c = rw (c.from.ensures, low_bits _ c.args.x c.requires.0) (entry-below _ _ c.requires.1 _)

pub returns : goal.returns
returns g c = rw (c.from.ensures, low_bits _ c.args.x c.requires.0) (by-entry _ _ c.requires.1 _)
