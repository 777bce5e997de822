-- What an acknowledgement does.
pub mod Acknowledge
