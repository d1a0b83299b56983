pub mod Placing
pub mod Running
pub mod Elements
