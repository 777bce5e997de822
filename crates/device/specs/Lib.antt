-- What the bus and the demands cite of a device.
pub mod Judge
