-- `params::row_of` meets its promise: the first row whose identifier it is. Assumes nothing.
use borrow.Author.Rules.{rules}
use borrow.Author.Tests.{tests}
use lib.Dec.{eqb}
use Rattle.std.proofs.lemmas.Iterator.{YieldsList-from_slice}
use Rattle.std.proofs.lemmas.Iterator.Search.{position_from_yields_List}
use Rattle.params.proofs.Tables.{place_position}
use Rattle.params.proofs.row_of.Goals as goal

pub returns : goal.returns
returns c =
    let a = c.args in
    rw (place_position a.id a.table)
    (position_from_yields_List (λ r. eqb r.id a.id) _ _ c.position.result c.position.ensures.ran
    (YieldsList-from_slice a.table cc) (λ x b q k. search (rules, tests)))
