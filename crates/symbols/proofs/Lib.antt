pub mod Flattened
pub mod Passes
pub mod Firsts
pub mod Ranking
pub mod Defining
pub mod Valued
pub mod Staging
