-- The laws of answers and refusals that the layers above cite.
pub mod Answers
pub mod Exactly
pub mod Only
