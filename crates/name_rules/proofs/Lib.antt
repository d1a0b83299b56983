pub mod Parting
pub mod Lettering
pub mod GivenMore
pub mod Conflicting
