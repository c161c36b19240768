pub mod Ways
pub mod Split
pub mod Repeats
pub use Rattle.receiver_piece.proofs.reader as reader
pub use Rattle.receiver_piece.proofs.receiver_record as receiver_record
