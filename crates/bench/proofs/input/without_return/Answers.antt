-- `without_return` meets its promise: a 0x0D at the end, of a line that had a 0x0A, goes. Assumes nothing.
use Rattle.std.proofs.Common.{refl, ap, ◌∙◌, rules}
use Rattle.bench.proofs.Laws.{return-dropped}
use Rattle.bench.specs.Input.{without_return}
use Rattle.bench.proofs.input.without_return.Goals as goal

pub returns-then-whole : goal.returns-then-whole
returns-then-whole c =
    ap (λ x. x.now) c.unwrap_or.ensures
    ∙ return-dropped c.args.line.now _ _ c.args.whole _ c.if-whole.true refl c.strip_suffix.ensures.cases

pub returns : goal.returns
unfolding without_return
returns c = search (rules, c.if-whole.false)
