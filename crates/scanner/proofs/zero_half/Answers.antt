-- `scanner::zero_half` meets its promise: a half is the 0 half exactly if its last bit is 0. Assumes nothing.
use mathlib.Core.Path.{◌∙◌}
use native.Mathlib.Omega.{arith}
use borrow.Author.Tests.{le-ltb}
use Rattle.scan.proofs.Climbs.{zero-half-at, zero-half-none}
use Rattle.scanner.proofs.zero_half.Goals as goal

pub returns-then-bits-gt0 : goal.returns-then-bits-gt0
returns-then-bits-gt0 c = zero-half-at c.args.beginning c.args.bits (omega arith) (omega arith)

pub returns-else-bits-gt0 : goal.returns-else-bits-gt0
returns-else-bits-gt0 c =
    le-ltb 0 c.args.bits (omega arith) ∙ zero-half-none c.args.beginning c.args.bits (omega arith)
