pub mod UsesAt
pub mod Held
pub mod UsesIn
pub mod NamesIn
