-- `writer::write` meets its promise: each way out, by the tests that lead to it. Assumes nothing.
use mathlib.Core.Path.{sym, ◌∙◌}
use native.Mathlib.Omega.{arith}
use Rattle.refusal.specs.declared.Refusal.TheVariants.{NotAllowed, PayloadTooLong}
use Rattle.refusal.proofs.Answers.{refused, hands-is}
use Rattle.limits.proofs.Exactly.{is-limit-exactly}
use Rattle.frame.proofs.Judge.{unlimited-write, payload-long, payload-fits}
use Rattle.writer.proofs.write.Goals as goal

pub returns-then-not-is_limit : goal.returns-then-not-is_limit
returns-then-not-is_limit c =
    let none = sym c.is_limit.ensures ∙ c.if-not-is_limit.true in
    refused NotAllowed (unlimited-write _ none _ _ _ _)

pub returns-then-payload-le-PAYLOAD_MOST : goal.returns-then-payload-le-PAYLOAD_MOST
returns-then-payload-le-PAYLOAD_MOST c =
    let limit = sym c.is_limit.ensures ∙ c.if-not-is_limit.false in
    let least = (is-limit-exactly _).0 limit in
    hands-is (sym (payload-fits _ limit _ _ _ _ (omega arith)))
    c.write_in.ensures

pub returns-then-limit-le-LIMIT_LEAST : goal.returns-then-limit-le-LIMIT_LEAST
returns-then-limit-le-LIMIT_LEAST c =
    let limit = sym c.is_limit.ensures ∙ c.if-not-is_limit.false in
    refused PayloadTooLong (payload-long _ limit _ _ _ _ (omega arith))

pub returns-then-limit-payload : goal.returns-then-limit-payload
returns-then-limit-payload c =
    let limit = sym c.is_limit.ensures ∙ c.if-not-is_limit.false in
    refused PayloadTooLong (payload-long _ limit _ _ _ _ (omega arith))

pub write_in-requires-2 : goal.write_in-requires-2
write_in-requires-2 c =
    let limit = sym c.is_limit.ensures ∙ c.if-not-is_limit.false in
    let most = (is-limit-exactly _).0 limit in
    (omega arith, omega arith)

pub returns : goal.returns
returns c =
    let limit = sym c.is_limit.ensures ∙ c.if-not-is_limit.false in
    hands-is (sym (payload-fits _ limit _ _ _ _ (omega arith)))
    c.write_in-2.ensures
