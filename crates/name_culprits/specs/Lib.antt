pub mod Told
pub mod Texts
pub mod Names
pub mod GivesAt
pub mod Searched
pub mod Witness
