-- What is proved of the link states beside the promise.
pub mod Only
pub mod Renews
