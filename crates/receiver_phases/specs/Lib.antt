pub mod Phases
pub use Rattle.receiver_course.specs as receiver_course
pub use Rattle.receiver_course.specs.receiver_record as receiver_record
pub use Rattle.receiver_course.specs.reader as reader
