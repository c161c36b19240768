pub mod Rest
pub mod Table
