-- That the promise allows one result, and what its data must be.
pub mod Data
pub mod Only
