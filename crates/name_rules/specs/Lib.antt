pub mod HeldNames
pub mod GivenAt
pub mod Lettered
pub mod Disputed
