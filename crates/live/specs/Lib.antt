-- What the live line carries, and how a caller works through it.
pub mod Stretches
pub mod Calls
pub mod Asks
pub mod Sent
pub mod InC
