-- What the other crates cite of salvage; and, for its own functions, what they promise each other.
pub mod Capture
pub mod Holding
pub mod Work
pub mod Pieces
