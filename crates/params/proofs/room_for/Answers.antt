-- `params::room_for` meets its promise: the row of the identifier, its lengths, then whether the part is there already.
-- Assumes nothing.
use mathlib.Core.Path.{sym, ap, ◌∙◌}
use mathlib.Core.Bool.{not}
use Rattle.std.specs.Prelude.{is_none}
use Rattle.params.proofs.Kept.{room-there, room-repeat, room-length, room-none}
use Rattle.params.proofs.room_for.Goals as goal
use Rattle.params.proofs.room_for.Goals.{else-allows-via-then-allows+else-is_none, else-allows-via-else-allows}

pub returns-in_err-row : goal.returns-in_err-row
returns-in_err-row c =
    let a = c.args in
    rw c.from_residual.ensures (room-none a.table a.parts a.id a.len (sym c.row_of.ensures ∙ c.in_err-row.was))

pub returns-then-is_none : goal.returns-then-is_none
returns-then-is_none c =
    let a = c.args in
    room-there a.table a.parts a.id a.len _ (sym c.row_of.ensures ∙ c.in_ok-row.was) _
    (sym c.allows.ensures ∙ c.if-allows.true) (sym (ap is_none c.part_at.ensures) ∙ ap not c.if-is_none.ensures)

pub returns-else-allows : goal.returns-else-allows
returns-else-allows c =
    let a = c.args in
    elim c.else-allows.branch [
      | else-allows-via-then-allows+else-is_none w ↦ room-repeat a.table a.parts a.id a.len _ (sym c.row_of.ensures ∙ c.in_ok-row.was) (sym (ap is_none w.part_at.ensures) ∙ ap not w.if-is_none.ensures)
      | else-allows-via-else-allows w ↦ room-length a.table a.parts a.id a.len _ (sym c.row_of.ensures ∙ c.in_ok-row.was) _ (sym c.allows.ensures ∙ w.if-allows.false)
    ]
