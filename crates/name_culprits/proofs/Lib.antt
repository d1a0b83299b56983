pub mod Lines
pub mod Naming
pub mod Joining
pub mod Already
pub mod Telling
