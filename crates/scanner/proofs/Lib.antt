-- What is proved of the scanner's calls beside their promises.
pub mod Only
