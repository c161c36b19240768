pub mod Fill
pub mod Written
pub mod Octet
pub mod Field
pub mod Unsigned
pub mod Lengths
