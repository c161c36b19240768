pub mod Contents
pub mod Returns
