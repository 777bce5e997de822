-- The laws of the frame check that the layers above cite.
pub mod Agree
pub mod Division
pub mod Exclusive
pub mod Only
pub mod Register
pub mod Residue
pub mod Rule
pub mod Vectors
