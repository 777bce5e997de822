-- The laws of lists of octets that the layers above cite.
pub mod Bounds
pub mod Chunks
pub mod Every
pub mod Only
pub mod Rest
pub mod Rules
pub mod Runs
pub mod Stores
pub mod Takes
pub mod Texts
pub mod Words
