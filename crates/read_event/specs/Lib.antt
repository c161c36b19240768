pub mod View
pub mod Judge
pub mod Step
