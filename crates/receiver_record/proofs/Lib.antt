pub mod Record
pub use Rattle.reader.proofs as reader
