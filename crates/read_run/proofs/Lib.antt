pub mod Laid
pub mod Events
pub mod Turns
pub mod Answers
