pub mod Values
pub mod Window
pub mod Hold
pub mod Forms
