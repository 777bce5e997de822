-- `writer::is_short` meets its promise: each octet counts once from the start, and an escaped one once more.
-- Assumes nothing.
use mathlib.Core.Path.{◌≡◌}
use Prim.Native.Nat.{◌+◌, ◌-◌}
use lib.ListN.{length, drop}
use Rattle.frame.specs.Line.{on_line, between}
use Rattle.writer.proofs.is_short.Given as goal

abbrev pub invariant-loop-b : goal.invariant-loop-b
invariant-loop-b l = l.len + length (on_line (drop l.b-index l.d)) ≡ length (between l.d) + (length l.d - l.b-index)
