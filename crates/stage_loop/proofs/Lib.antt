pub mod Advances
pub mod QuietLoop
pub mod Committed
