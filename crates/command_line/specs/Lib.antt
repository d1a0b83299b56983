pub mod Command
pub mod CommandLine
pub mod Culprits
pub mod Matches
