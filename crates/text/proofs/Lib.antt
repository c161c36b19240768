pub mod Char
pub mod Equal
pub mod Parts
pub mod Rest
pub mod Names
pub mod Examples
