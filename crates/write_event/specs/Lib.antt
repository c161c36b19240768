pub mod Judge
pub mod Step
