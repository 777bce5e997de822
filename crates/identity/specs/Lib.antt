-- What the other crates cite of identities and beginnings.
pub mod Bits
pub mod Identity
pub mod Order
