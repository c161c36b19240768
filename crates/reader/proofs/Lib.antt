pub mod Start
pub mod Stream
pub mod Examples
pub use Rattle.read_body.proofs.read_run as read_run
pub use Rattle.read_body.proofs as read_body
