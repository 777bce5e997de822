-- What the other crates cite of the frame limit.
pub mod Limits
