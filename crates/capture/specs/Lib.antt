-- How a caller works through a capture, and what is said of its places.
pub mod Turns
pub mod Places
pub mod Whole
pub mod Pinned
