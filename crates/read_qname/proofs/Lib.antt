pub mod Texts
pub mod Got
pub mod Pair
pub mod Returns
