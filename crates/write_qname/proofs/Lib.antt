pub mod Items
pub mod Carried
pub mod Lain
pub mod Pair
pub mod Returns
pub mod Puts
