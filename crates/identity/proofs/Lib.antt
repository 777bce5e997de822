-- The laws of identities and beginnings that the layers above cite.
pub mod Words
pub mod Packed
pub mod Masks
pub mod Orders
pub mod Exactly
pub mod Identities
pub mod Scans
pub mod Lists
pub mod Only
