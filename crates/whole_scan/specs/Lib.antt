-- Demand 3, stated.
pub mod Demand
