-- `xid_answer::put_negotiation_answer` meets its promise: the opening and up to four triples, one behind the other.
-- Assumes nothing.
use Rattle.xid_answer.proofs.Stored.{negotiation-stored}
use Rattle.xid_answer.proofs.put_negotiation_answer.Goals as goal

pub returns : goal.returns
returns c =
    let eight = c in
    let seven = eight in
    let six = seven in
    let five = six in
    let begun = five in
    let bits = begun in
    let a = bits.args in
    negotiation-stored a.asked a.limit a.out.now bits.length_value-bits.ensures
    begun.field_length.ensures begun.put_opening.ensures five.put_if-a.ensures.0
    six.put_if-b.ensures.0 seven.put_if-c.ensures.0 eight.put_if.ensures.0
