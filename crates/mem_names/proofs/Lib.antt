pub mod Uris
pub mod Names
pub mod Joined
pub mod Tables
