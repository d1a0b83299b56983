pub mod Told
pub mod Pieces
pub mod Outputs
pub mod Texts
pub mod Witness
