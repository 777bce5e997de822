-- `device::judge` meets its promise: each way out, by the tests that lead to it. Assumes nothing.
use Rattle.refusal.specs.declared.Refusal.TheVariants.{NoRoom, NotAllowed}
use mathlib.Core.Path.{sym, ◌∙◌}
use mathlib.Core.List.{[]}
use native.Mathlib.Omega.{arith}
use Rattle.device.proofs.Reacts.{refused, judged-5, judged-6, roomy, turned}
use Rattle.device.proofs.judge.Goals as goal

pub returns-then-not-allowed : goal.returns-then-not-allowed
returns-then-not-allowed c =
    let a = c.args in
    refused _ a.device.now _ NotAllowed
    (judged-6 a.device.now _ a.answer.now (sym c.allowed.ensures ∙ c.if-not-allowed.true))

pub returns-then-answer-frame_most : goal.returns-then-answer-frame_most
returns-then-answer-frame_most c =
    let a = c.args in
    let allows = sym c.allowed.ensures ∙ c.if-not-allowed.false in
    refused _ a.device.now _ NoRoom
    (judged-5 a.device.now _ a.answer.now allows (omega (arith, c.if-answer-frame_most.true, c.frame_most.ensures)))

pub utter-requires : goal.utter-requires
utter-requires c =
    let a = c.args in
    let allows = sym c.allowed.ensures ∙ c.if-not-allowed.false in
    roomy a.device.now [] a.answer.now allows (omega (arith, c.if-answer-frame_most.false, c.frame_most.ensures))

pub returns : goal.returns
returns c =
    let a = c.args in
    let allows = sym c.allowed.ensures ∙ c.if-not-allowed.false in
    turned a.device.now _ a.answer.now allows (omega (arith, c.if-answer-frame_most.false, c.frame_most.ensures))
    c.judge_frame-turn.ensures c.utter.ensures
