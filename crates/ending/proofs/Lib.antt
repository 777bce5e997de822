-- The laws of a session's end that the layers above cite.
pub mod Only
