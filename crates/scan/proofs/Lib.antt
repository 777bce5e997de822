-- The laws of the scanner that the layers above cite.
pub mod Climbs
pub mod Overs
pub mod Probes
pub mod Reports
pub mod Rows
pub mod Moves
pub mod Refusals
pub mod Only
