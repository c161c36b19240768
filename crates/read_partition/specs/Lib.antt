pub mod View
pub mod Strings
