pub mod Writable
pub mod Judged
pub mod Bits
