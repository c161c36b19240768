pub mod Room
pub mod Told
pub mod Piece
pub use Rattle.receiver_phases.proofs.receiver_course as receiver_course
pub use Rattle.receiver_phases.proofs.receiver_record as receiver_record
pub use Rattle.receiver_phases.proofs.reader as reader
