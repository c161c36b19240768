pub mod Events
pub mod Run
