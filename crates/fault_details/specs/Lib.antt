pub mod Subscripts
pub mod Fields
pub mod Meeting
pub mod Details
pub mod Texts
