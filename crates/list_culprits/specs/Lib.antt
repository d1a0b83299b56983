pub mod Seats
pub mod Told
pub mod Texts
pub mod Transfers
pub mod Loops
pub mod Listed
pub mod Witness
