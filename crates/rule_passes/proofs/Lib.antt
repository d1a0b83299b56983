pub mod Passes
pub mod Missing
pub mod Merging
pub mod Answering
pub mod Membership
pub mod Both
pub mod Adding
