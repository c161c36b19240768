pub mod Here
pub mod Codes
pub mod Found
