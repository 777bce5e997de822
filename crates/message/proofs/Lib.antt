-- The laws of messages that the layers above cite.
pub mod Exact
pub mod Fails
pub mod Judged
pub mod Kept
pub mod Moves
pub mod Only
pub mod Samples
pub mod Shapes
pub mod Stays
pub mod Tables
pub mod Tells
pub mod Words
