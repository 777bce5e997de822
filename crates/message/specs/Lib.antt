-- What the other crates cite of messages.
pub mod Messages
pub mod Carried
