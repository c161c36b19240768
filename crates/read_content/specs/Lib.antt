pub mod View
pub mod Contents
