-- The laws of a station that the link cites.
pub mod Only
