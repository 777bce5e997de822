-- `event::stopped` meets its promise: each way out, by the tests that lead to it. Assumes nothing.
use mathlib.Core.Path.{sym, ◌∙◌}
use Rattle.refusal.specs.declared.Refusal.TheVariants.{CannotBe}
use Rattle.refusal.proofs.Answers.{unchanged, changed}
use Rattle.antenna.proofs.Happenings.{stops, no-movement, outside}
use Rattle.event.proofs.stopped.Goals as goal
use Rattle.event.proofs.stopped.Goals.{then-not-is_running-via-then-not-is_running}
use Rattle.event.proofs.stopped.Goals.{then-not-is_running-via-else-not-is_running+then-not-in_range}

pub returns-then-not-is_running : goal.returns-then-not-is_running
returns-then-not-is_running c =
    elim c.then-not-is_running.branch [
      | then-not-is_running-via-then-not-is_running w ↦
          unchanged CannotBe (no-movement _ _ (sym c.is_running.ensures ∙ w.if-not-is_running.true))
      | then-not-is_running-via-else-not-is_running+then-not-in_range w ↦
          unchanged CannotBe (outside _ _ (sym w.in_range.ensures ∙ w.if-not-in_range.true))
    ]

pub returns : goal.returns
returns c =
    let moves = sym c.is_running.ensures ∙ c.if-not-is_running.false in
    let inside = sym c.in_range.ensures ∙ c.if-not-in_range.false in
    changed (stops _ _ moves inside c.rested-antenna.ensures)
