-- `event::alarmed` meets its promise: each way out, by the tests that lead to it. Assumes nothing.
use Rattle.refusal.specs.declared.Refusal.TheVariants.{CannotBe}
use Rattle.refusal.proofs.Answers.{unchanged, changed}
use Rattle.antenna.proofs.Happenings.{known, unknown}
use Rattle.event.proofs.alarmed.Goals as goal

pub returns-then-place-ge6 : goal.returns-then-place-ge6
returns-then-place-ge6 c = unchanged CannotBe (unknown _ _ _ c.find-place.ensures c.if-place-ge6.true)

pub returns : goal.returns
returns c = changed (known _ _ _ c.find-place.ensures c.if-place-ge6.false)
