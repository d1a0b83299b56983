pub mod Turns
pub mod Bounded
pub mod Separated
pub mod Sets
pub mod Listed
