-- What is proved of the link beside its promise.
pub mod Silence
pub mod Judged
pub mod Cases
pub mod Xids
pub mod Only
