pub mod Reading
pub mod Seeing
