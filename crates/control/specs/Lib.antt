-- What the device cites of control octets.
pub mod Control
