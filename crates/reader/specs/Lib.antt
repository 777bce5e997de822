-- What the other crates cite of the reader.
pub mod Read
