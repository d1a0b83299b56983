pub mod Calling
pub mod Placing
pub mod Texts
pub mod Unbroken
