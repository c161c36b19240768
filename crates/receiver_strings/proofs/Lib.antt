pub mod Cuts
pub mod Points
pub mod Strings
