-- `receiver::copy` meets its promise: what was copied so far stands there. Assumes nothing.
use mathlib.Core.Path.{◌≡◌}
use lib.ListN.{length, take}
use lib.Seq.{sets}
use Rattle.receiver.specs.Pieces.{Plain}
use Rattle.receiver.proofs.copy.Given as goal

abbrev pub invariant-loop-i : goal.invariant-loop-i
invariant-loop-i l =
    Plain (take l.i l.s) × (l.store ≡ sets l.initial.store l.at (take l.i l.s)) × (length l.store ≡ length l.initial.store)
