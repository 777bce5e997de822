-- The laws of the walk that the scanner cites.
pub mod Halves
pub mod Play
pub mod Stops
pub mod Feed
pub mod Doubts
pub mod Through
pub mod Places
pub mod Endings
pub mod Sent
pub mod Once
pub mod Answers
pub mod Visit
pub mod Sorted
pub mod Begins
pub mod Demand
