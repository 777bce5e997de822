-- What the other crates cite of payloads.
pub mod Payloads
