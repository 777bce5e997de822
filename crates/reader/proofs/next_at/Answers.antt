-- `reader::next_at` meets its promise: what stands at the place says where it goes on. Assumes nothing.
use mathlib.Core.Path.{ap, ◌∙◌}
use native.Mathlib.Omega.{arith}
use Rattle.std.specs.Prelude.{Ok}
use Rattle.reader.specs.Read.{behind}
use Rattle.reader.proofs.Steps.{told, step_is}
use Rattle.reader.proofs.next_at.Goals as goal

pub overflow_add-cursor : goal.overflow_add-cursor
overflow_add-cursor c =
    let some = rw c.in-Ok-Some.is at c.in-Ok-Some.field-0-is in
    let h = told _ _ c.stands_at-found.ensures (c.in-Ok-Some.is ∙ ap Ok some) in
    omega (arith, h.0, h.2)

pub returns-in-Ok-Some : goal.returns-in-Ok-Some
unfolding behind
returns-in-Ok-Some c =
    let some = rw c.in-Ok-Some.is at c.in-Ok-Some.field-0-is in
    step_is _ _ c.stands_at-found.ensures (c.in-Ok-Some.is ∙ ap Ok some)

pub returns-in-Ok-None : goal.returns-in-Ok-None
unfolding behind
returns-in-Ok-None c =
    let none = rw c.in-Ok-None.is at c.in-Ok-None.field-0-is in
    step_is _ _ c.stands_at-found.ensures (c.in-Ok-None.is ∙ ap Ok none)

pub returns-in-Err : goal.returns-in-Err
unfolding behind
returns-in-Err c = step_is _ _ c.stands_at-found.ensures c.in-Err.is
