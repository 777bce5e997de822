-- The laws of reports that the layers above cite.
pub mod Counts
pub mod Flags
pub mod Laws
pub mod Only
pub mod Parts
