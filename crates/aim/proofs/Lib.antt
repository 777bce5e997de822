-- The laws of a tilt asked that the layers above cite.
pub mod Only
