-- The laws that the bench's proofs cite.
pub mod Laws
