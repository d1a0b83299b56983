pub mod Told
pub mod Placing
pub mod Counts
pub mod Culprits
pub mod Witness
pub mod Texts
