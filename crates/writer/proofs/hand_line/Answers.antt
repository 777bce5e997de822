-- `writer::hand_line` meets its promise: a law of `Answers` for each way out. Assumes nothing.
use borrow.Author.Tests.{ltb-true, ltb-false}
use mathlib.Core.Path.{sym, ◌∙◌}
use native.Mathlib.Nat.{zero-add}
use Rattle.refusal.specs.declared.Refusal.TheVariants.{NoRoom}
use Rattle.refusal.proofs.Answers.{refused, handed, no_room, in-room}
use Rattle.writer.proofs.hand_line.Goals as goal

pub returns-then-is_short : goal.returns-then-is_short
returns-then-is_short c = refused NoRoom (no_room _ _ (ltb-true _ _ (sym c.is_short.ensures ∙ c.if-is_short.true)))

pub put_between-requires : goal.put_between-requires
put_between-requires c = ltb-false _ _ (sym c.is_short.ensures ∙ c.if-is_short.false)

pub returns : goal.returns
returns c =
    let put = c.put_between in
    let fits = ltb-false _ _ (sym c.is_short.ensures ∙ c.if-is_short.false) in
    rw (put.ensures.count, zero-add) (handed _ (in-room _ _ fits) fits put.ensures.octets)
