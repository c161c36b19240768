pub mod On
pub use Rattle.reader.specs.read_run as read_run
