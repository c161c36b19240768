pub mod Opened
pub mod Tops
pub mod Turns
pub mod Over
