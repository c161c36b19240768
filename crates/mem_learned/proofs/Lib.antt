pub mod Rows
pub mod Joined
pub mod Newest
pub mod Sites
pub mod Grammars
