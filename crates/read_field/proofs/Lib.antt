pub mod Ahead
pub mod Window
pub mod View
pub mod Numbers
pub mod Groups
pub mod Zeros
pub mod FewBits
