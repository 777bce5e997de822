-- What the program's functions promise, where a promise can be made.
pub mod Words
