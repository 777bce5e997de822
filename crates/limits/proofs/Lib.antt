-- The laws of the frame limit that the layers above cite.
pub mod Exactly
pub mod Only
