pub mod Read
pub mod Examples
pub use Rattle.read_body.specs.read_run as read_run
pub use Rattle.read_body.specs as read_body
