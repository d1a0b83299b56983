pub mod Setting
pub mod Histories
pub mod Boards
