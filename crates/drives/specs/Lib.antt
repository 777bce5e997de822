-- What a command to the bench's row of drives does.
pub mod Drives
