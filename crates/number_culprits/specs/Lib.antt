pub mod Told
pub mod Texts
pub mod Numbers
pub mod Known
pub mod Witness
