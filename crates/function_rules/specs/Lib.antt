pub mod Measured
pub mod Earlier
pub mod Numbers
pub mod Behind
