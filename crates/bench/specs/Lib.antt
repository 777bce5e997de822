-- What the bench does with a line, beside what it writes.
pub mod Bench
pub mod Said
pub mod Written
pub mod Input
