pub mod Wait
pub use Rattle.receiver_read.specs as receiver_read
pub use Rattle.receiver_read.specs.read_run as read_run
