-- `spaces` meets its promise: the octets that pass the filter are counted. Assumes nothing.
use Rattle.std.proofs.Common.{◌∙◌, rules, tests}
use Rattle.std.proofs.lemmas.Iterator.{YieldsList-from_slice}
use Rattle.std.proofs.lemmas.Iterator.Consumers.{YieldsList-from_filter, count_from_yields_List}
use Rattle.script.proofs.WordLaws.{is_space, spaces-counted}
use Rattle.script.proofs.spaces.Goals as goal

pub returns : goal.returns
returns c =
    count_from_yields_List c.filter.result c.count.result c.count.ensures.ran
    (YieldsList-from_filter _ is_space (YieldsList-from_slice c.args.line.now cc) c.filter.ensures.closure
    (λ x r q k. search (rules, tests)))
    ∙ spaces-counted c.args.line.now
