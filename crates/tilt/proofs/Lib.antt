-- The laws of tilts as octets that the layers above cite.
pub mod Laws
pub mod Only
