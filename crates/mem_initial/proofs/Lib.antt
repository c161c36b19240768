mod Steps
mod Turn
mod Texts
pub mod Joins
pub mod Initial
