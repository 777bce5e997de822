-- The laws of the parameter field that the layers above cite.
pub mod Tables
pub mod Kept
pub mod Turns
pub mod Exact
pub mod Values
pub mod Made
pub mod Only
