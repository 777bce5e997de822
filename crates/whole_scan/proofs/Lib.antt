-- What is proved of a scan run to its end.
pub mod Bounded
pub mod Drives
pub mod Ends
pub mod Run
pub mod Exactly
pub mod AnyScans
pub mod Buses
pub mod Demand
pub mod Cases
