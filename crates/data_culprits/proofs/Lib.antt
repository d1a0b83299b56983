pub mod Valueless
pub mod Witnessing
pub mod Telling
pub mod Steps
