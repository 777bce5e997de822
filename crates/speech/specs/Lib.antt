-- What a device cites of its speech.
pub mod Speech
