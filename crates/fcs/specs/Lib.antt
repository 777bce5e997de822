-- What the other crates cite of the frame check.
pub mod Check
