pub mod Awaits
pub mod Laws
pub mod Store
