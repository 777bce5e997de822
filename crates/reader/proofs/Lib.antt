-- The laws of the reader that the layers above cite.
pub mod Steps
pub mod Only
