-- The laws of a session that the device cites.
pub mod Numbers
pub mod Only
