-- What the other crates cite of the device's record.
pub mod Allowed
pub mod Desk
pub mod Fresh
pub mod Accounts
pub mod Changes
