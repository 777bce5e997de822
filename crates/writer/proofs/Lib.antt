-- The laws of the writer that the layers above cite.
pub mod Only
