pub mod Told
pub mod Texts
pub mod Functions
pub mod Witness
