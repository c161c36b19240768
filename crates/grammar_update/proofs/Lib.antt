pub mod Tests
pub mod Turns
pub mod Represented
pub mod Events
pub mod Left
pub mod Allowed
