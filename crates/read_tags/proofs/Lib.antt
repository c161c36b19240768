pub mod Plain
pub mod Tags
