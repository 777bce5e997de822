-- `report::put_codes` meets its promise: what is left of the flags is what is left to store. Assumes nothing.
use mathlib.Core.Path.{◌≡◌}
use Prim.Native.Nat.{◌+◌, ◌≤◌}
use lib.ListN.{length, drop}
use Rattle.octets.proofs.Runs.{Run}
use Rattle.antenna.specs.Alarms.{alarm_codes, codes_among, codes_of}
use Rattle.report.proofs.put_codes.Given as goal

abbrev pub invariant-loop-i : goal.invariant-loop-i
invariant-loop-i l =
    (l.i ≤ 6) × (l.n ≤ 1 + l.i) × (length l.out ≡ length l.initial.out) × (length l.flags ≡ 6)
    × Run l.out l.n (codes_among (drop l.i alarm_codes) (drop l.i l.flags)) l.initial.out 1 (codes_of l.flags)
