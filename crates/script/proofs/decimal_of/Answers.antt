-- `decimal_of` meets its promise: the number so far, with the digits left behind it, is the number of all, up to a million.
-- Assumes nothing.
use Rattle.std.proofs.Common.{sym, ◌∙◌, arith, rules}
use Rattle.script.proofs.ValueLaws.{decimal-other, decimal-more, decimal-done}
use Rattle.script.proofs.decimal_of.Goals as goal

pub returns-then-not-is_ascii_digit : goal.returns-then-not-is_ascii_digit
returns-then-not-is_ascii_digit c =
    decimal-other _ _ _ c.loop-digit.invariant.number c.loop-digit-test.true
    (sym c.is_ascii_digit.ensures.value ∙ c.if-not-is_ascii_digit.true)

pub loop-digit-preserved : goal.loop-digit-preserved
loop-digit-preserved c = record {
  capped = search rules;
  number = decimal-more _ _ _ c.loop-digit.invariant.number c.loop-digit-test.true
      (sym c.is_ascii_digit.ensures.value ∙ c.if-not-is_ascii_digit.false) (omega (arith, c.min-n.ensures, c.from.ensures));
}

pub returns : goal.returns
returns c = decimal-done _ _ _ c.loop-digit.invariant.number c.loop-digit-test.false c.loop-digit.invariant.capped
