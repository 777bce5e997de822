-- What the other crates cite of the answers.
pub mod Answer
