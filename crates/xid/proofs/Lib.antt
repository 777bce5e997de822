-- The laws of scan and assignment that the layers above cite.
pub mod Found
pub mod Octetwise
pub mod Shapes
pub mod Rows
pub mod Judging
pub mod Told
pub mod Table
pub mod Exactly
pub mod Wild
pub mod Probe
pub mod Ends
pub mod Examples
pub mod Only
