-- What the other crates cite of frames on the line.
pub mod Line
pub mod Decode
pub mod Write
