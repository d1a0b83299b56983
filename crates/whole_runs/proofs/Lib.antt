pub mod Listed
pub mod Wholes
pub mod Advancing
