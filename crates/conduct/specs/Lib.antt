-- What the demands cite of a device's conduct.
pub mod Conduct
pub mod Endings
pub mod Alarms
pub mod Comes
pub mod Spelt
pub mod Account
