-- What a frame does in each link state.
pub mod States
