-- `fcs::RemainderTable::two_on` meets its promise: the second octet comes down with the register. Assumes nothing.
use borrow.Author.Rules.{rules}
use Rattle.fcs.proofs.Register.{register-both}
use Rattle.fcs.proofs.RemainderTable.two_on.Goals as goal

pub returns : goal.returns
returns c =
    register-both _ _ _ (search rules) c.pair.ensures c.eight_on.ensures
    c.eight_on-2.ensures
