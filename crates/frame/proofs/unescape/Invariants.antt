-- `frame::unescape` meets its promise: what is left of the line, decoded, is what is left to store. Assumes nothing.
use mathlib.Core.Path.{◌≡◌}
use mathlib.Core.List.{List}
use Prim.Native.Nat.{ℕ, ◌≤◌, ◌-◌}
use lib.ListN.{length, drop}
use Rattle.octets.proofs.Runs.{Run}
use Rattle.frame.specs.Line.{plain}
use Rattle.frame.proofs.unescape.Given as goal

-- of the line s, what is left at i is left to store
pub record Left (s store₀ store : List ℕ) (n i : ℕ) : Type 0 where
  pub inside : i ≤ length s
  pub few : n ≤ i
  pub long : length store ≡ length store₀
  pub run : Run store n (plain (drop i s)) store₀ 0 (plain s)

abbrev pub invariant-loop-i : goal.invariant-loop-i
invariant-loop-i l = Left l.s l.initial.store l.store l.n l.i

abbrev pub decreases-loop-i : goal.decreases-loop-i
decreases-loop-i l = length l.s - l.i
