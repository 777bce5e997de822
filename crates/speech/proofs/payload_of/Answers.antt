-- `speech::payload_of` meets its promise: the answers to an XID are what their crate lays. Assumes nothing.
use Rattle.speech.proofs.Said.{scan-said, assignment-said, negotiation-said}
use Rattle.speech.proofs.payload_of.Goals as goal

pub returns-in-Scanned : goal.returns-in-Scanned
returns-in-Scanned c = scan-said c.args.device c.args.say _ c.in-Scanned.is c.scan_answer.ensures

pub returns-in-Assigned : goal.returns-in-Assigned
returns-in-Assigned c = assignment-said c.args.device c.args.say _ c.in-Assigned.is c.assignment_answer.ensures

pub returns-in-Negotiated : goal.returns-in-Negotiated
returns-in-Negotiated c =
    negotiation-said c.args.device c.args.say _ _ c.in-Negotiated.is c.negotiation_answer.ensures
