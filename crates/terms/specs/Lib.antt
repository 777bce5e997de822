-- The words of the bench's answers.
pub mod Terms
