-- `aim::aim_at` meets its promise: each way out, by the tests that lead to it. Assumes nothing.
use mathlib.Core.Path.{refl, sym, ◌∙◌}
use Rattle.antenna.specs.declared.Unaimed.TheVariants.{Busy, Outside}
use Rattle.antenna.specs.Motions.{aim_number, moves}
use Rattle.antenna.proofs.Movements.{aim-05, aim-13, starts}
use Rattle.antenna.proofs.Aims.{refused-aims, started-aims}
use Rattle.aim.proofs.aim_at.Goals as goal

pub returns-then-busy : goal.returns-then-busy
unfolding aim_number
returns-then-busy c = refused-aims Busy refl ((aim-05 _ _).1 (sym c.busy.ensures ∙ c.if-busy.true))

pub returns-then-not-in_range : goal.returns-then-not-in_range
unfolding aim_number
returns-then-not-in_range c =
    let free = sym c.busy.ensures ∙ c.if-busy.false in
    let outside = sym c.in_range.ensures ∙ c.if-not-in_range.true in
    refused-aims Outside refl ((aim-13 _ _).1 (free, outside))

pub returns : goal.returns
unfolding moves
returns c =
    let free = sym c.busy.ensures ∙ c.if-busy.false in
    let inside = sym c.in_range.ensures ∙ c.if-not-in_range.false in
    started-aims ((starts _ _ _).1 (free, inside, refl))
