pub mod View
pub mod Levels
pub mod Learned
pub mod Production
