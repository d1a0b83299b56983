pub mod Allowed
pub mod Conditions
pub mod Quiet
pub mod Recorded
pub mod Walk
pub mod Reported
