-- `reader::stands_at` meets its promise: one test after the other. Assumes nothing.
use Rattle.reader.proofs.Steps.{stands-end, stands_one, stands-short, stands-whole}
use Rattle.reader.proofs.stands_at.Goals as goal

pub returns-then-s-at : goal.returns-then-s-at
returns-then-s-at c = stands-end _ _ c.if-s-at.true

pub returns-then-left-lt2 : goal.returns-then-left-lt2
returns-then-left-lt2 c = stands_one _ _ c.if-s-at.false c.if-left-lt2.true

pub returns-then-left-len : goal.returns-then-left-len
returns-then-left-len c =
    let start = c in
    stands-short _ _ start.if-s-at.false c.if-left-lt2.false _ c.wide-len.ensures
    c.if-left-len.true

pub returns : goal.returns
returns c =
    let start = c in
    stands-whole _ _ start.if-s-at.false start.if-left-lt2.false _ c.wide-len.ensures
    c.if-left-len.false
