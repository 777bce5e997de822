-- What the link cites of a station.
pub mod Station
pub mod Turns
