pub mod Calls
pub mod Expressions
pub mod Statements
