-- What a device and its bus cite of the link.
pub mod Link
pub mod Frames
pub mod Xids
