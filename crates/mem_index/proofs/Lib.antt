pub mod Tally
pub mod Codes
pub mod More
