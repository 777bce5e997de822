-- What a line of the bench script means.
pub mod Words
pub mod Commands
pub mod Values
pub mod Script
pub mod Room
