pub mod Quiet
pub mod Places
pub mod Entries
pub mod Output
pub mod Lists
pub mod Kept
pub mod Puts
pub mod Landmarked
