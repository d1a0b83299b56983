pub mod Scans
pub mod Places
