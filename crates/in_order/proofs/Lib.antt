pub mod Promised
pub mod Listed
pub mod Units
