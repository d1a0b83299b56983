pub mod Begun
mod Examples
pub mod Limited
