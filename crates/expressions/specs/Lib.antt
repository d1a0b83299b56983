pub mod Listed
pub mod Places
pub mod Dimensions
pub mod Functions
pub mod Glossaries
pub mod Names
pub mod Calls
