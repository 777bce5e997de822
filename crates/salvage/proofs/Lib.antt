-- What is proved of salvage, beside its functions.
pub mod Steps
pub mod Writing
pub mod Gathering
pub mod Reaching
pub mod Going
pub mod Only
