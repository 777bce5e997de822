-- The laws of a negotiation that the layers above cite.
pub mod Bits
pub mod Found
pub mod Exactly
pub mod Examples
pub mod Only
