-- What is proved of a device's speech beside its promise.
pub mod Said
pub mod Only
