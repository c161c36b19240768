pub mod Rows
pub mod Valid
