pub mod Silent
pub mod Keeping
pub mod Apart
pub mod Labelled
mod Putting
