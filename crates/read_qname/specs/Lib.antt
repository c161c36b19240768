pub mod View
pub mod Texts
pub mod Qnames
