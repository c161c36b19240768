pub mod Tests
pub mod Strings
pub mod Rows
pub mod Means
pub mod Hits
