pub mod Cells
pub mod Reply
pub mod Padding
pub mod Body
pub use Rattle.read_run.proofs as read_run
