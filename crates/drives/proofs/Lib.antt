-- What is proved of the bench's row of drives.
pub mod Ways
pub mod Keeps
pub mod Only
pub mod Page
