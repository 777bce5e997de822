-- The laws of the receiver's record.
pub mod After
pub mod Steps
pub mod Passing
pub mod Ends
pub mod Refusals
pub mod Only
