pub mod Rows
pub mod Judges
pub mod Events
pub mod Returns
pub mod Steps
