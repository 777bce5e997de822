-- What the other crates cite of what a device tells of itself.
pub mod Information
