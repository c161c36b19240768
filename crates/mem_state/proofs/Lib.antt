pub mod Frames
pub mod Joins
pub mod Commit
pub mod Strung
pub mod Taught
pub mod Grows
pub mod Marks
pub mod Counts
