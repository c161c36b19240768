pub mod Laid
pub mod Longer
pub mod Beginning
pub mod On
