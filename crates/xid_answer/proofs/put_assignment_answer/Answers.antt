-- `xid_answer::put_assignment_answer` meets its promise: the opening and two triples, one behind the other.
-- Assumes nothing.
use Rattle.xid.specs.Addressing.{identity_id}
use Rattle.xid_answer.proofs.Stored.{length-triple, assignment-stored}
use native.Mathlib.Omega.{arith}
use Rattle.xid_answer.proofs.put_assignment_answer.Goals as goal

pub put_param-requires : goal.put_param-requires
put_param-requires c =
    let own = c in
    let start = own in
    let long = length-triple identity_id start.args.identity.now in
    (omega (arith, own.put_param-a.ensures.count, long, start.requires), omega arith)

pub returns : goal.returns
returns c =
    let own = c in
    let begun = own in
    let a = begun.args in
    assignment-stored a.identity.now a.out.now begun.put_opening.ensures own.put_param-a.ensures
    c.put_param.ensures
