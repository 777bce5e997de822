-- `salvage::read` meets its promise: each number in its order. Assumes nothing.
use Rattle.std.proofs.Common.{sym, ◌∙◌, arith, ltb-false}
use borrow.Author.Tests.{not-true}
use Rattle.octets.proofs.Words.{and_parts}
use Rattle.salvage.proofs.Steps.{sound-bounds, read-refused, read-room, read-works}
use Rattle.salvage.proofs.read.Goals as goal

pub returns-then-not-is_allowed : goal.returns-then-not-is_allowed
returns-then-not-is_allowed c =
    read-refused _ _ _ _ (sym c.is_allowed.ensures ∙ c.if-not-is_allowed.true)

pub returns-then-not-has_room : goal.returns-then-not-has_room
returns-then-not-has_room c =
    read-room _ _ _ _ (sym c.is_allowed.ensures ∙ c.if-not-is_allowed.false) (sym c.has_room.ensures ∙ c.if-not-has_room.true)

pub work-requires : goal.work-requires
work-requires c =
    let yes = and_parts _ _ (sym c.is_allowed.ensures ∙ c.if-not-is_allowed.false) in
    let sound = sound-bounds _ _ yes.1 in (
      ((omega arith, sound.0), omega arith, sound.1),
      yes.0,
      ltb-false _ _ (not-true _ (sym c.has_room.ensures ∙ c.if-not-has_room.false)),
    )

pub returns : goal.returns
returns c =
    read-works _ _ _ _ (sym c.is_allowed.ensures ∙ c.if-not-is_allowed.false)
    (sym c.has_room.ensures ∙ c.if-not-has_room.false) c.work.ensures
