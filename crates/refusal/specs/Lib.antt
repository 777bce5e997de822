-- What the other crates cite of refusals: the numbers, and the answers that use them.
pub mod Numbers
pub mod Answer
