-- What the other crates cite of a drive.
pub mod Angles
pub mod Alarms
pub mod Motions
pub mod Events
