-- What crosses to C.
pub mod Crossing
