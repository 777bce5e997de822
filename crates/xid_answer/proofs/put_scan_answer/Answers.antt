-- `xid_answer::put_scan_answer` meets its promise: the opening and three triples, one behind the other.
-- Assumes nothing.
use Rattle.xid.specs.Addressing.{identity_id, address_id}
use Rattle.xid_answer.proofs.Stored.{length-triple, scan-stored}
use native.Mathlib.Omega.{arith}
use mathlib.Core.List.{[], ◌∷◌}
use Rattle.xid_answer.proofs.put_scan_answer.Goals as goal

pub put_param-b-requires : goal.put_param-b-requires
put_param-b-requires c =
    let own = c in
    let start = own in
    let long = length-triple identity_id start.args.identity.now in
    (omega (arith, own.put_param-a.ensures.count, long, start.requires), omega arith)

pub put_param-requires : goal.put_param-requires
put_param-requires c =
    let from = c in
    let own = from in
    let start = own in
    let long = length-triple identity_id start.args.identity.now in
    let more = length-triple address_id (start.args.address ∷ []) in
    let count = own.put_param-a.ensures.count in
    (omega (arith, from.put_param-b.ensures.count, more, count, long, start.requires), omega arith)

pub returns : goal.returns
returns c =
    let from = c in
    let own = from in
    let begun = own in
    let a = begun.args in
    scan-stored a.identity.now a.out.now a.address begun.put_opening.ensures own.put_param-a.ensures
    from.put_param-b.ensures c.put_param.ensures
