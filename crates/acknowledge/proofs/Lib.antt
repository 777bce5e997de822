-- The laws of an acknowledgement that the link cites.
pub mod Only
pub mod Settled
