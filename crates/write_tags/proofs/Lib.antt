pub mod Ends
pub mod Elements
pub mod Documents
