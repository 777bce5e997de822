-- The three demands, the starred cases and the index of the headline theorems.
pub mod One
pub mod Requests
pub mod Two
pub mod Runs
pub mod Three
pub mod Cable
pub mod Cases
pub mod Index
pub mod Verdicts
