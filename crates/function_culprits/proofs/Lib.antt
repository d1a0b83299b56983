pub mod Defining
pub mod Stepping
