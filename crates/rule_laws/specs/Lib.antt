pub mod Units
pub mod Lawful
pub mod References
pub mod Evaluated
pub mod Sized
pub mod Read
