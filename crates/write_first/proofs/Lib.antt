pub mod First
pub mod Unnamed
