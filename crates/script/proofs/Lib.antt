-- The laws of the script's words and values that the proofs cite, and what the promise comes to.
mod WordLaws
mod ValueLaws
mod LineLaws
pub mod Only
pub mod Room
pub mod Examples
pub mod Hexes
pub mod Numbers
pub mod Commands
