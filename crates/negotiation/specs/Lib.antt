-- What the other crates cite of a negotiation.
pub mod Negotiation
