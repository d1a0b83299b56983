pub mod Functions
pub mod Lists
pub mod Orders
pub mod Parts
pub mod Lines
