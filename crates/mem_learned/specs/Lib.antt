pub mod Learned
pub mod Grammars
pub mod Grows
