-- The laws of the events that the layers above cite.
pub mod Same
pub mod Only
