-- What the other crates cite of the receiver; and, for its own functions, what they promise each other.
pub mod Held
pub mod Call
pub mod Pieces
