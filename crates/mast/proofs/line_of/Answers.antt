-- `mast::line_of` meets its promise: the octets that the writer handed out are the line. Assumes nothing.
use native.Mathlib.Omega.{arith}
use Rattle.scan.specs.Scan.{probe_length}
use Rattle.mast.proofs.Lines.{probe-line}
use Rattle.mast.proofs.line_of.Goals as goal

pub returns : goal.returns
returns c = probe-line c.args.probe probe_length (omega arith) c.write-handed.ensures c.unwrap_or.ensures
