-- What is proved of the bench's words.
pub mod Only
pub mod Said
