-- The laws of rows compared that the layers above cite.
pub mod Laws
pub mod Only
