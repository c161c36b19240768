pub mod Here
pub mod Unfit
pub mod Rows
pub mod Found
pub mod Codes
