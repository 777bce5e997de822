-- What the device cites of a session.
pub mod Session
