pub mod Crews
pub mod Loops
pub mod Fronts
