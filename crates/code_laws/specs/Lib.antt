pub mod Meant
pub mod Coded
pub mod Functions
pub mod Kinds
