-- `octets::find` meets its promise: the place that the library finds. Assumes nothing.
use Rattle.std.proofs.Common.{rules, tests, ◌∙◌}
use Rattle.std.proofs.lemmas.Iterator.{YieldsList-from_slice}
use Rattle.std.proofs.lemmas.Iterator.Search.{position_from_yields_List}
use Rattle.octets.proofs.Words.{place-found}
use Rattle.octets.proofs.find.Goals as goal

pub returns : goal.returns
returns c = c.unwrap_or.ensures ∙ place-found c.args.octet c.args.s.now
    (position_from_yields_List _ _ _ c.position.result c.position.ensures.ran (YieldsList-from_slice c.args.s.now cc)
    (λ x b q k. search (rules, tests)))
