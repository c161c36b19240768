pub mod Reply
pub mod Body
pub use Rattle.read_run.specs as read_run
