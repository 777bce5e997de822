-- The laws of control octets that the device cites.
pub mod Named
pub mod Only
