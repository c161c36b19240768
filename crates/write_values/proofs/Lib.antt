pub mod Texts
pub mod Forms
pub mod Values
pub mod Puts
