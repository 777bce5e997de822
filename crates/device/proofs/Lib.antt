-- What is proved of a device beside its promises.
pub mod Reacts
pub mod Only
pub mod Hearing
pub mod Exact
pub mod Fits
pub mod Says
