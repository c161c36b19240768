pub mod Literals
pub mod Steps
pub mod Posts
pub mod Hits
pub mod Numbers
pub mod Fields
