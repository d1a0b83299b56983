pub mod Agreed
pub mod Checked
pub mod Kept
pub mod Numbered
pub mod Starts
pub mod Told
pub mod Whereabouts
