pub mod AtSizes
