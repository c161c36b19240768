pub mod Values
pub mod Contents
pub mod Named
pub mod Unnamed
pub mod Puts
pub mod Lengths
