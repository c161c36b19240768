pub mod Table
pub mod Fixed
pub mod Codes
pub mod Places
pub mod Bits
pub mod Teaches
