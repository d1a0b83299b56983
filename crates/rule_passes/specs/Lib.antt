pub mod Listed
pub mod Telling
pub mod Rivals
pub mod InOrder
