pub mod Told
pub mod Texts
pub mod Sizes
pub mod Sized
pub mod Witness
