-- What is proved of the program's words.
pub mod Numbers
