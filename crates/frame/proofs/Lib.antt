-- The laws of frames on the line that the layers above cite.
pub mod Assembled
pub mod Checks
pub mod Escapes
pub mod Exact
pub mod Judge
pub mod Lengths
pub mod Lines
pub mod Only
pub mod Trip
pub mod Unique
