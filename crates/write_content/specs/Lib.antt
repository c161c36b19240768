pub mod Answer
pub mod Contents
pub mod Writing
