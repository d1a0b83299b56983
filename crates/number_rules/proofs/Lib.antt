pub mod GreatParts
pub mod CappedBy
pub mod Sizing
