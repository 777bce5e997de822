-- What is proved of a row of devices and its scan.
pub mod Lines
pub mod Rounds
pub mod Demand
pub mod Only
