pub mod Rooms
pub mod Repeats
pub mod Taken
