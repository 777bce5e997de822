-- What the other crates cite of the parameter field.
pub mod Field
pub mod Walk
