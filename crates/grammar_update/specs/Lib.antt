pub mod Growth
pub mod After
