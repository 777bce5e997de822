-- `word` meets its promise: the words of a line are the parts that its spaces leave. Assumes nothing.
use Rattle.std.proofs.Common.{refl, ap, ◌∙◌, rules, tests}
use Rattle.std.proofs.lemmas.Iterator.Consumers.{nth_from_yields_List}
use Rattle.std.proofs.lemmas.Iterator.Splits.{YieldsList-from_slice_split}
use Rattle.script.proofs.WordLaws.{is_space, word-nth}
use Rattle.script.proofs.word.Goals as goal

pub returns : goal.returns
returns c =
    let nth = nth_from_yields_List _ _ c.args.others c.nth.ensures.ran
    (YieldsList-from_slice_split _ is_space c.args.line.now c.split.ensures.rest c.split.ensures.done
    c.split.ensures.closure (λ x r q k. search (rules, tests))) in
    ap (λ x. x.now) c.unwrap_or.ensures ∙ word-nth _ _ _ c.args.line.now refl nth
