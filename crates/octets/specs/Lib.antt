-- What the other crates cite of lists of octets.
pub mod Octets
pub mod Puts
pub mod Text
