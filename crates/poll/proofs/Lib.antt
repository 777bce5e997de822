-- What is proved of RR in a session beside its promise.
pub mod Tells
pub mod Only
