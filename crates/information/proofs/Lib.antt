-- The laws of what a device tells of itself that the layers above cite.
pub mod Laws
pub mod Only
pub mod Parts
