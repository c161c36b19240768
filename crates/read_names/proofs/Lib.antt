pub mod Bounds
pub mod Rows
pub mod Compact
pub mod Uris
pub mod NewUris
pub mod Meaning
pub mod Names
pub mod NewNames
