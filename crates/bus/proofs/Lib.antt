-- What is proved of the whole bus.
pub mod Hears
pub mod Heard
pub mod Scans
pub mod Lines
pub mod Longer
pub mod Longest
pub mod Assigns
pub mod Shared
pub mod Starts
pub mod Each
pub mod Places
pub mod Installs
pub mod Needs
pub mod Job
pub mod Ascends
pub mod Pairs
pub mod Examples
