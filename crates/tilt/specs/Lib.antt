-- What the other crates cite of tilts as octets.
pub mod Tilts
