pub mod Record
pub use Rattle.reader.specs as reader
