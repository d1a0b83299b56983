pub mod Words
pub mod Places
pub mod Nearest
pub mod Asking
