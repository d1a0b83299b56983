pub mod Seating
pub mod Missing
pub mod Looping
pub mod Telling
pub mod Stepping
