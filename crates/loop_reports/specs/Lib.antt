pub mod BlockTrips
pub mod Counting
pub mod Carrying
pub mod Cells
pub mod Advice
pub mod Lines
pub mod Noting
