pub mod Patterns
pub mod Views
pub mod Forms
pub mod Rows
pub mod Faults
