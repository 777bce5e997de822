-- `link::judge_frame` meets its promise: a frame of a wrong size gets silence, any other is read. Assumes nothing.
use mathlib.Core.Path.{◌∙◌}
use native.Mathlib.Omega.{arith}
use Rattle.link.proofs.Judged.{too_short, too_long, judged-by}
use Rattle.link.proofs.judge_frame.Goals as goal
use Rattle.link.proofs.judge_frame.Goals.{then-frame-lt2-via-then-frame-lt2, then-frame-lt2-via-else-frame-lt2+then-frame_most-frame}

pub returns-then-frame-lt2 : goal.returns-then-frame-lt2
returns-then-frame-lt2 c =
    c.say.ensures
    ∙ elim c.then-frame-lt2.branch [
      | then-frame-lt2-via-then-frame-lt2 w ↦ too_short _ _ w.if-frame-lt2.true
      | then-frame-lt2-via-else-frame-lt2+then-frame_most-frame w ↦
          too_long _ _ (omega (arith, w.if-frame_most-frame.true, w.frame_most.ensures))
    ]

pub returns : goal.returns
returns c =
    judged-by _ _ c.if-frame-lt2.false (omega (arith, c.if-frame_most-frame.false, c.frame_most.ensures)) _
    c.controlled.ensures
