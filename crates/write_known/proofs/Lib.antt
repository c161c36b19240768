pub mod Known
pub mod Names
pub mod Values
pub mod Attributes
