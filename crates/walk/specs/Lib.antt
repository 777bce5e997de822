-- What the scanner cites of the walk.
pub mod Beginnings
pub mod Probes
pub mod Machine
pub mod Demand
