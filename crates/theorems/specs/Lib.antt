pub mod Claims
pub mod Pieces
pub mod Split
pub mod Calls
pub mod Cells
pub mod Readings
pub mod ReadingsCalls
pub mod ReadingsCells
