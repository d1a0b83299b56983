pub mod Told
pub mod Wants
pub mod Clashes
pub mod Words
pub mod Texts
pub mod Witness
