pub mod Names
pub mod Events
pub mod Steps
pub mod Hits
