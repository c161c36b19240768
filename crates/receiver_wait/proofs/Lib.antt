pub mod Asks
pub mod Awaiting
pub mod Stops
pub use Rattle.receiver_read.proofs as receiver_read
