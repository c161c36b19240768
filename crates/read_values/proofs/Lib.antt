pub mod Bounds
pub mod Meaning
pub mod News
pub mod Texts
pub mod Returns
