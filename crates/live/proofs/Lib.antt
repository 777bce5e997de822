-- The laws of the live line.
pub mod Steps
pub mod Answered
pub mod Flags
pub mod Cuts
pub mod Decoder
pub mod Words
pub mod Noise
pub mod Trip
pub mod Called
pub mod Played
pub mod Asked
pub mod InC
pub mod Examples
