-- The laws of what crosses.
pub mod Crosses
pub mod Only
pub mod Tells
