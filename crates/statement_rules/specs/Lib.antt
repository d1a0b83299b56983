pub mod Counted
pub mod Labels
pub mod Reached
pub mod Counters
pub mod FormatLabels
pub mod Implied
pub mod FormatsFound
