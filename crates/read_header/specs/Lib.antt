pub mod Header
