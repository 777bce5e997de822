-- `identity::octet` meets its promise: after i turns x is the word of the first i bits. Assumes nothing.
use mathlib.Core.Path.{◌≡◌}
use lib.ListN.{take, drop}
use Rattle.identity.specs.Bits.{word}
use Rattle.identity.proofs.octet.Given as goal

abbrev pub invariant-loop-i : goal.invariant-loop-i
invariant-loop-i l = l.x ≡ word (drop l.from (take l.bits l.beginning)) l.i
