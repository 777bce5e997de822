-- `writer::put_rest` meets its promise: what is left of the octets is what is left to put. Assumes nothing.
use mathlib.Core.Path.{◌≡◌}
use lib.ListN.{length, drop}
use Rattle.octets.proofs.Runs.{Run}
use Rattle.frame.specs.Line.{on_line}
use Rattle.writer.proofs.put_rest.Given as goal

abbrev pub invariant-loop-b : goal.invariant-loop-b
invariant-loop-b l =
    (length l.line ≡ length l.initial.line) × Run l.line l.n (on_line (drop l.b-index l.d)) l.initial.line l.at (on_line l.d)
