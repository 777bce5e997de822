-- The laws of a drive that the layers above cite.
pub mod Aims
pub mod Angles
pub mod Awaits
pub mod Differences
pub mod Can
pub mod Codes
pub mod Happenings
pub mod Movements
pub mod Only
pub mod Tells
