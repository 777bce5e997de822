-- `writer::is_special` meets its promise: one test after the other. Assumes nothing.
use borrow.Author.Tests.{eq-eqb, ne_eqb}
use Rattle.frame.specs.Line.{special}
use Rattle.writer.proofs.is_special.Goals as goal

pub returns-then-b-eq-FLAG : goal.returns-then-b-eq-FLAG
unfolding special
returns-then-b-eq-FLAG c = simp (eq-eqb _ _ c.if-b-eq-FLAG.true)

pub returns-else-b-eq-FLAG : goal.returns-else-b-eq-FLAG
unfolding special
returns-else-b-eq-FLAG c = simp (ne_eqb _ _ c.if-b-eq-FLAG.false)
