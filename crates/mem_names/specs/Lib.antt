pub mod Uris
pub mod Names
pub mod Places
