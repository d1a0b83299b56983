pub mod Wants
pub mod RealNames
