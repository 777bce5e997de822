-- `in_hex` meets its promise: what is left to put makes the row of all. Assumes nothing.
use Rattle.std.proofs.Common.{◌≡◌, ◌+◌, ◌*◌, take, drop}
use lib.Seq.{sets}
use Rattle.bench.specs.Written.{hexed, hex_row}
use Rattle.bench.proofs.answers.in_hex.Given as goal

abbrev pub invariant-loop-i : goal.invariant-loop-i
invariant-loop-i l = sets l.row (2 * l.i + 1) (hexed (drop l.i (take 600 l.s))) ≡ hex_row l.mark l.s
