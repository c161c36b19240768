pub mod Piece
pub use Rattle.receiver_phases.specs as receiver_phases
pub use Rattle.receiver_phases.specs.receiver_course as receiver_course
pub use Rattle.receiver_phases.specs.receiver_record as receiver_record
pub use Rattle.receiver_phases.specs.reader as reader
pub use Rattle.receiver_wait.specs.receiver_read as receiver_read
