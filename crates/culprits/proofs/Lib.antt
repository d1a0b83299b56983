pub mod Placing
pub mod Placed
pub mod Naming
pub mod Answering
pub mod Asking
