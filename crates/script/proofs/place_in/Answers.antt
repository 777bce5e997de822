-- `place_in` meets its promise: the place among the names left is the place among all. Assumes nothing.
use Rattle.std.proofs.Common.{List, ℕ, sym, ap, ◌∙◌, arith}
use Rattle.identity.specs.Identity.{same}
use Rattle.script.proofs.WordLaws.{name-here, name-more, name_done}
use Rattle.script.proofs.place_in.Goals as goal

pub returns-then-same : goal.returns-then-same
returns-then-same c =
    let told = sym (ap (λ (l : List ℕ). same l c.args.name.now) c.word.ensures) ∙ sym c.same.ensures in
    name-here _ _ _ c.args.count c.loop-place.invariant (omega arith) (told ∙ c.if-same.true)

pub loop-place-preserved : goal.loop-place-preserved
loop-place-preserved c =
    let told = sym (ap (λ (l : List ℕ). same l c.args.name.now) c.word.ensures) ∙ sym c.same.ensures in
    name-more _ _ _ c.args.count c.loop-place.invariant (omega arith) (told ∙ c.if-same.false)

pub returns : goal.returns
returns c = name_done _ _ _ c.args.count c.loop-place.invariant c.loop-place-test.false
