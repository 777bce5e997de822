-- What the code does with a row of devices.
pub mod Mast
pub mod Steps
