-- `salvage::finish` meets its promise. Assumes nothing.
use Rattle.std.proofs.Common.{sym, ◌∙◌}
use Rattle.salvage.specs.Work.{end_verdict}
use Rattle.salvage.proofs.Steps.{finish-refused, finish-ends}
use Rattle.salvage.proofs.finish.Goals as goal

pub returns-then-not-is_sound : goal.returns-then-not-is_sound
returns-then-not-is_sound c = finish-refused _ (sym c.is_sound.ensures ∙ c.if-not-is_sound.true)

pub emptied-requires : goal.emptied-requires
unfolding end_verdict
emptied-requires c = c.pass-verdict.ensures

pub returns : goal.returns
returns c =
    finish-ends _ (sym c.is_sound.ensures ∙ c.if-not-is_sound.false)
    c.pass-verdict.ensures c.emptied.ensures c.list-left_out.ensures
