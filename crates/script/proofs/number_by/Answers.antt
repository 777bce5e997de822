-- `number_by` meets its promise: a number below zero or above, or none. Assumes nothing.
use Rattle.std.proofs.Common.{sym, ◌∙◌, arith}
use Rattle.std.proofs.lemmas.Result.{err_from_is_err_and}
use Rattle.script.proofs.ValueLaws.{sign-is, signed-none, signed-ranged, plain-none, plain-ranged}
use Rattle.script.proofs.number_by.Goals as goal

pub returns-in_err-decimal_of-in-Some : goal.returns-in_err-decimal_of-in-Some
returns-in_err-decimal_of-in-Some c =
    let p = err_from_is_err_and c.from_residual.result c.from_residual.ensures.1 in
    let a = c.args in
    let cases = c.in-Some.ensures.cases in
    rw (p.1, p.2)
    (signed-none a.below a.above a.outside a.word.now (sym (sign-is a.word.now) ∙ cases.0) cases.1
    c.in_err-decimal_of-in-Some.ensures)

pub returns-in_ok-decimal_of-in-Some : goal.returns-in_ok-decimal_of-in-Some
returns-in_ok-decimal_of-in-Some c =
    let a = c.args in
    let cases = c.in-Some.ensures.cases in
    c.ranged.ensures
    ∙ signed-ranged a.below a.above a.outside a.word.now (sym (sign-is a.word.now) ∙ cases.0) cases.1
    c.in_ok-decimal_of-in-Some.ensures (omega arith)

pub returns-in_err-decimal_of-in-None : goal.returns-in_err-decimal_of-in-None
returns-in_err-decimal_of-in-None c =
    let p = err_from_is_err_and c.from_residual-in_err-decimal_of-in-None.result c.from_residual-in_err-decimal_of-in-None.ensures.1 in
    let a = c.args in
    rw (p.1, p.2)
    (plain-none a.below a.above a.outside a.word.now (sym (sign-is a.word.now) ∙ c.in-None.ensures.cases)
    c.in_err-decimal_of-in-None.ensures)

pub returns-in_ok-decimal_of-in-None : goal.returns-in_ok-decimal_of-in-None
returns-in_ok-decimal_of-in-None c =
    let a = c.args in
    c.ranged-in-None.ensures
    ∙ plain-ranged a.below a.above a.outside a.word.now (sym (sign-is a.word.now) ∙ c.in-None.ensures.cases)
    c.in_ok-decimal_of-in-None.ensures (omega arith)
