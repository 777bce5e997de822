-- `salvager::words::number` meets its promise: what is left, behind what was read. Assumes nothing.
use Rattle.std.proofs.Common.{refl, sym, ◌∙◌, arith}
use Rattle.salvager.specs.Words.{number_in}
use Rattle.salvager.proofs.Numbers.{number-other, number_more, number-done}
use Rattle.salvager.proofs.words.number.Goals as goal

pub loop-b-init : goal.loop-b-init
unfolding number_in
loop-b-init c = (refl, omega arith)

pub returns-then-not-is_ascii_digit : goal.returns-then-not-is_ascii_digit
returns-then-not-is_ascii_digit c =
    number-other _ _ _ c.loop-b.invariant.0 c.loop-b-test.true
    (sym c.is_ascii_digit.ensures.value ∙ c.if-not-is_ascii_digit.true)

pub loop-b-preserved : goal.loop-b-preserved
loop-b-preserved c = (
  rw (c.min-n.ensures, c.from.ensures)
      (number_more _ _ _ c.loop-b.invariant.0 c.loop-b-test.true
      (sym c.is_ascii_digit.ensures.value ∙ c.if-not-is_ascii_digit.false)),
  omega (arith, c.min-n.ensures),
)

pub returns : goal.returns
returns c = number-done _ _ _ c.loop-b.invariant.0 c.loop-b-test.false
