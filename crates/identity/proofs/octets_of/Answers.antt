-- `identity::octets_of` meets its promise: the octets so far are the words at their places. Assumes nothing.
use mathlib.Core.Path.{◌≡◌, ap, ◌∙◌}
use Prim.Native.Nat.{ℕ}
use native.Mathlib.Omega.{arith}
use lib.ListN.{length, take}
use Rattle.identity.specs.Identity.{octets_of, width, depth}
use Rattle.octets.proofs.Takes.{take_within}
use Rattle.identity.proofs.Words.{packed_is}
use Rattle.identity.proofs.octets_of.Goals as goal

pub returns : goal.returns
returns c =
    let row : length c.args.beginning ≡ depth = omega (arith, c.well_formed) in
    let cut = ap (λ (n : ℕ). take n c.args.beginning) c.min-count.ensures in
    packed_is width _ _ (omega arith) (λ k h. c.loop-j.invariant k (omega arith))
    ∙ ap octets_of (cut ∙ take_within c.args.bits depth c.args.beginning (omega (arith, row)))
