pub mod Putting
pub mod Twice
pub mod Measuring
pub mod Describing
