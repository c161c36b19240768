pub mod Uris
pub mod Names
