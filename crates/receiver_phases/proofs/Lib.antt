pub mod Phases
pub use Rattle.receiver_course.proofs as receiver_course
pub use Rattle.receiver_course.proofs.receiver_record as receiver_record
pub use Rattle.receiver_course.proofs.reader as reader
