pub mod Ways
pub use Rattle.receiver_record.proofs as receiver_record
pub use Rattle.receiver_record.proofs.reader as reader
