-- `writer::put_between` meets its promise: four octets a turn, the rest, and a flag before and behind. Assumes nothing.
use mathlib.Core.Path.{◌≡◌}
use Prim.Native.Nat.{◌+◌, ◌*◌, ◌≤◌}
use lib.ListN.{length, drop}
use Rattle.octets.proofs.Runs.{Run}
use Rattle.frame.specs.Line.{on_line}
use Rattle.writer.proofs.put_between.Given as goal

abbrev pub invariant-loop-four : goal.invariant-loop-four
invariant-loop-four l =
    (length l.line ≡ length l.initial.line) × (length (on_line l.d) + 2 ≤ length l.line)
    × Run l.line l.n (on_line (drop (l.four-index * 4) l.d)) l.initial.line 1 (on_line l.d)
