pub mod Parts
pub mod Levels
pub mod Unlearned
pub mod Rows
pub mod Codes
pub mod Returns
pub mod Between
