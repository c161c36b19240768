pub mod View
pub mod Cuts
pub mod Strings
