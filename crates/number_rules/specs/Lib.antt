pub mod BadNumbers
pub mod GreatNumbers
pub mod CappedSizes
pub mod Sized
