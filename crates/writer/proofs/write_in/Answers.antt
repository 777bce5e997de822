-- `writer::write_in` meets its promise: the line of what was assembled is handed out. Assumes nothing.
use native.Mathlib.Omega.{arith}
use lib.ListN.{length-replicate}
use Rattle.refusal.proofs.Answers.{hands-is}
use Rattle.frame.proofs.Assembled.{assembled-long, assembled-line}
use Rattle.writer.proofs.write_in.Goals as goal

pub shared_whole_as_front-hand_line : goal.shared_whole_as_front-hand_line
shared_whole_as_front-hand_line g c =
    (omega (arith, c.requires.0, assembled-long _ _ _ c.assemble-n.ensures), omega (arith, c.requires.1))

pub returns : goal.returns
returns g c =
    let put = c.assemble-n.ensures in
    hands-is (assembled-line _ _ _ put _ (rw length-replicate c.requires.0)) c.hand_line.ensures
