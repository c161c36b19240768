pub mod Text
pub mod Names
pub mod Examples
