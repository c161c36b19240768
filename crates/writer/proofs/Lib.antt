pub mod Octets
pub mod Reply
pub mod Start
