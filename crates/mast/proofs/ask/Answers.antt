-- `mast::ask` meets its promise: a probe that is given fills the octets lent to it. Assumes nothing.
use mathlib.Core.Path.{refl}
use Rattle.mast.proofs.Lines.{asks-line, asks-none}
use Rattle.mast.proofs.ask.Goals as goal

pub returns-in-Ok : goal.returns-in-Ok
returns-in-Ok c = asks-line c.args.scan refl c.probe.ensures c.in-Ok.is c.line_of.ensures

pub returns-in-Err : goal.returns-in-Err
returns-in-Err c = asks-none c.args.scan c.probe.ensures c.in-Err.is
