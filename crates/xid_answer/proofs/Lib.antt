-- The laws of the answers that the layers above cite.
pub mod Stored
pub mod Lengths
pub mod Agreement
pub mod Only
