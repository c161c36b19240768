pub mod Course
pub use Rattle.receiver_record.specs as receiver_record
pub use Rattle.receiver_record.specs.reader as reader
