pub mod Counting
pub mod Controlling
pub mod Labelled
pub mod Implying
pub mod Found
pub mod Misformed
