pub mod Telling
pub mod Stepping
pub mod Joining
