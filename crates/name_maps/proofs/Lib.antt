pub mod FirstKept
pub mod NameSets
