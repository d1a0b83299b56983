pub mod Appearance
pub mod Finding
