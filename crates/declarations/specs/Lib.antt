pub mod ArraysKept
pub mod KnownNames
pub mod Tables
pub mod Dimensioned
pub mod Unknown
pub mod Bounded
