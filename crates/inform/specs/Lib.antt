-- What an I-frame does in a session.
pub mod Inform
