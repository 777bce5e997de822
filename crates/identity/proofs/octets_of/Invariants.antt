-- `identity::octets_of` meets its promise: the octets so far are the words at their places. Assumes nothing.
use mathlib.Core.Path.{◌≡◌}
use Prim.Native.Nat.{ℕ, ◌*◌, ◌<◌}
use lib.ListN.{take, drop, get_or}
use Rattle.identity.specs.Bits.{word}
use Rattle.identity.proofs.octets_of.Given as goal

abbrev pub invariant-loop-j : goal.invariant-loop-j
invariant-loop-j l = (k : ℕ) → k < l.j → get_or l.x-items k 0 ≡ word (drop (8 * k) (take l.count l.beginning)) 8
