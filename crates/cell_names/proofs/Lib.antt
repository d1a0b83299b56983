pub mod Elements
pub mod Once
