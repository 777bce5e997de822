-- `negotiation::limit_asked` meets its promise: a case for each of the two lengths, given or not. Assumes nothing.
use Rattle.negotiation.proofs.Found.{none-asked, received-asked, sent-asked, both-asked}
use Rattle.negotiation.proofs.limit_asked.Goals as goal

pub returns-in-None-None : goal.returns-in-None-None
returns-in-None-None c = none-asked _ _ c.in-None-None.is-0 c.in-None-None.is-1

pub returns-in-None-Some : goal.returns-in-None-Some
returns-in-None-Some c =
    received-asked _ _ _ c.limit_for.ensures c.in-None-Some.is-0 c.in-None-Some.is-1 c.bits_at.ensures

pub returns-in-Some-None : goal.returns-in-Some-None
returns-in-Some-None c =
    sent-asked _ _ _ c.limit_for-in-Some-None.ensures c.in-Some-None.is-0 c.in-Some-None.is-1
    c.bits_at-in-Some-None.ensures

pub returns-in-Some-Some : goal.returns-in-Some-Some
returns-in-Some-Some c =
    both-asked _ _ _ c.limit_for-in-Some-Some.ensures _ _ c.in-Some-Some.is-0 c.in-Some-Some.is-1
    c.bits_at-in-Some-Some.ensures c.bits_at-in-Some-Some-2.ensures c.min.ensures
