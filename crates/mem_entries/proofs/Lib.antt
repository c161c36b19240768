pub mod Hashing
pub mod Texts
pub mod Entries
pub mod Slots
pub mod Alike
pub mod Nth
pub mod Sites
