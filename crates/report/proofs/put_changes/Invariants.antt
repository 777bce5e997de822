-- `report::put_changes` meets its promise: what is left of the flags is what is left to store. Assumes nothing.
use mathlib.Core.Path.{◌≡◌}
use Prim.Native.Nat.{◌*◌, ◌≤◌}
use lib.ListN.{length, drop}
use Rattle.octets.proofs.Runs.{Run}
use Rattle.antenna.specs.Alarms.{alarm_codes, changes_among, changes_of}
use Rattle.report.proofs.put_changes.Given as goal

abbrev pub invariant-loop-i : goal.invariant-loop-i
invariant-loop-i l =
    (l.i ≤ 6) × (l.n ≤ 2 * l.i) × (length l.out ≡ length l.initial.out) × (length l.present ≡ 6) × (length l.told ≡ 6)
    × Run l.out l.n (changes_among (drop l.i alarm_codes) (drop l.i l.present) (drop l.i l.told)) l.initial.out 0 (changes_of l.present l.told)
