-- The words of the theorems about the whole bus.
pub mod Cable
pub mod Scanning
pub mod Install
