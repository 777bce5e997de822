-- `mast::inner` meets its promise: with fewer than two octets nothing lies between the flags. Assumes nothing.
use Rattle.mast.proofs.Lines.{inside-none, inside-some}
use Rattle.mast.proofs.inner.Goals as goal

pub returns-then-line-lt2 : goal.returns-then-line-lt2
returns-then-line-lt2 c = inside-none _ c.if-line-lt2.true

pub returns : goal.returns
returns c = inside-some _
