pub mod Keeping
pub mod NameSets
