pub mod Members
pub mod Sorting
pub mod Said
pub mod Telling
pub mod Apart
pub mod LeastPairs
pub mod UnitPairs
pub mod Composed
mod Examples
