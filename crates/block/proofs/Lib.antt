-- The laws of a receiver's block.
pub mod Parts
pub mod Only
