-- `frame::decode` meets its promise: each way out, by the tests that lead to it. Assumes nothing.
use borrow.Author.Rules.{rules}
use mathlib.Core.Path.{sym, ◌∙◌}
use native.Mathlib.Omega.{arith}
use Rattle.refusal.specs.declared.Refusal.TheVariants.{NotAllowed, Broken, TooLong}
use Rattle.refusal.proofs.Answers.{refused, hands-is}
use Rattle.limits.proofs.Exactly.{is-limit-exactly}
use Rattle.frame.proofs.Judge.{unlimited-decode, when-broken, when_whole, when-overlong}
use Rattle.frame.proofs.Lines.{unbroken-parts}
use Rattle.frame.proofs.decode.Goals as goal

pub returns-then-not-is_limit : goal.returns-then-not-is_limit
returns-then-not-is_limit c = refused NotAllowed (unlimited-decode _ (sym c.is_limit.ensures ∙ c.if-not-is_limit.true) _ _)

pub returns-then-is_broken : goal.returns-then-is_broken
returns-then-is_broken c =
    let limit = sym c.is_limit.ensures ∙ c.if-not-is_limit.false in
    refused Broken (when-broken _ limit _ _ (sym c.is_broken.ensures ∙ c.if-is_broken.true))

pub decode_in-requires : goal.decode_in-requires
decode_in-requires c =
    let whole = sym c.is_broken.ensures ∙ c.if-is_broken.false in
    (search rules, search rules, (unbroken-parts _ whole).1)

pub returns-then-src-le-LINE_MOST : goal.returns-then-src-le-LINE_MOST
returns-then-src-le-LINE_MOST c =
    let whole = sym c.is_broken.ensures ∙ c.if-is_broken.false in
    let limit = sym c.is_limit.ensures ∙ c.if-not-is_limit.false in
    hands-is (sym (when_whole _ limit _ _ whole)) c.decode_in.ensures

-- more octets than a line has stand for more than the limit
pub returns-then-limit-le-LIMIT_LEAST : goal.returns-then-limit-le-LIMIT_LEAST
returns-then-limit-le-LIMIT_LEAST c =
    let whole = sym c.is_broken.ensures ∙ c.if-is_broken.false in
    let limit = sym c.is_limit.ensures ∙ c.if-not-is_limit.false in
    refused TooLong (when-overlong _ limit _ _ whole (omega arith))

pub returns-then-src-gt-LONGEST_LINE : goal.returns-then-src-gt-LONGEST_LINE
returns-then-src-gt-LONGEST_LINE c =
    let whole = sym c.is_broken.ensures ∙ c.if-is_broken.false in
    let limit = sym c.is_limit.ensures ∙ c.if-not-is_limit.false in
    let few = (is-limit-exactly _).0 limit in
    refused TooLong (when-overlong _ limit _ _ whole (omega arith))

pub decode_in-requires-2 : goal.decode_in-requires-2
decode_in-requires-2 c =
    let whole = sym c.is_broken.ensures ∙ c.if-is_broken.false in
    (search rules, search rules, (unbroken-parts _ whole).1)

pub returns : goal.returns
returns c =
    let whole = sym c.is_broken.ensures ∙ c.if-is_broken.false in
    let limit = sym c.is_limit.ensures ∙ c.if-not-is_limit.false in
    hands-is (sym (when_whole _ limit _ _ whole)) c.decode_in-2.ensures
