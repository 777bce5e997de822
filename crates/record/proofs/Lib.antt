-- The laws of the device's record that the layers above cite.
pub mod Accounts
pub mod Exactly
pub mod Freshly
pub mod Happened
pub mod Laid
pub mod Only
pub mod Stays
