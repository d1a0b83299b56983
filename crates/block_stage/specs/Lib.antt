pub mod Jobs
pub mod Faithful
pub mod Cuts
pub mod Taken
pub mod Stages
pub mod Causes
pub mod Told
