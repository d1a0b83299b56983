pub mod Pushes
pub mod Scans
pub mod Told
pub mod SoFar
pub mod Placed
