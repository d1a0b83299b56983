pub mod Codes
pub mod Items
pub mod Acts
pub mod Asked
pub mod Kept
pub mod Programs
pub mod Prepared
pub mod Listed
