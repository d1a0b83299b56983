pub mod Explained
pub mod Hinted
pub mod Knowing
pub mod Named
pub mod Pointed
pub mod Shown
