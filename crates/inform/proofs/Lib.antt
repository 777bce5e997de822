-- What is proved of an I-frame in a session beside its promise.
pub mod Only
pub mod Replies
