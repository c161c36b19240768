pub mod Premise
pub mod Qnames
