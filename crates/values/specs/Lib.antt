pub mod Numbers
pub mod Programs
pub mod Stacked
pub mod Ordered
