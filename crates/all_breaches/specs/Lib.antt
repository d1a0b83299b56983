pub mod Ordered
pub mod Phases
pub mod Further
pub mod Texts
pub mod Parts
pub mod Adding
