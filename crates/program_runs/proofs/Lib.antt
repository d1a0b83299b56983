pub mod Composed
pub mod Written
pub mod Promised
pub mod Unit
pub mod Told
pub mod Allowing
