-- `take` meets its promise: what the run has of a line goes behind what has come. Assumes nothing.
use mathlib.Core.Path.{ap, ◌∙◌}
use lib.Seq.{sets}
use Rattle.bench.specs.Input.{rest_of}
use Rattle.bench.proofs.Laws.{taken_is}
use Rattle.bench.proofs.input.take.Goals as goal

pub returns : goal.returns
unfolding rest_of
returns c =
    let put = c in
    let part2 = put in
    let find = part2 in
    let part = find in
    let a = part.args in
    taken_is a.input part.part-rest.ensures find.find-n.ensures
    (put.put_all.ensures ∙ ap (sets a.input.line a.input.len) part2.part.ensures)
    c.moved.ensures c.moved-2.ensures c.moved-3.ensures
