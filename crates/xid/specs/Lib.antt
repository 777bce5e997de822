-- What the other crates cite of scan and assignment.
pub mod Addressing
pub mod Match
pub mod Meaning
