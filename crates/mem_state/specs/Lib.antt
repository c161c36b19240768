pub mod Holds
pub mod Joining
pub mod Commit
pub mod Strung
pub mod Grows
