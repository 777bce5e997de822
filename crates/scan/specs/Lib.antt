-- What the other crates cite of the scanner.
pub mod Record
pub mod Steps
pub mod Scan
