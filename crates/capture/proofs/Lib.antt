-- What is proved of a salvage.
pub mod Numbers
pub mod Drained
pub mod Opened
pub mod Counts
pub mod Salvaged
pub mod Told
pub mod Parted
pub mod Filters
pub mod Decoded
pub mod Places
pub mod Whole
pub mod Again
pub mod Listed
pub mod Counted
pub mod Goods
