pub mod Found
pub mod Answering
