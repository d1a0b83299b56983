pub mod Schedules
pub mod Boards
