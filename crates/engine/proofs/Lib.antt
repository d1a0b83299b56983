mod Also
pub mod Front
pub mod Runs
pub mod Told
