-- The laws of payloads that the layers above cite.
pub mod Backs
pub mod Laws
pub mod Only
pub mod Places
