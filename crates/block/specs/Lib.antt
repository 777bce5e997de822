-- What the other crates cite of a receiver's block.
pub mod Block
