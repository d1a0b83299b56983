pub mod Appearing
pub mod FunctionsFound
