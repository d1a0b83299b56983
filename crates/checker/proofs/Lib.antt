pub mod Entering
pub mod Absent
pub mod CellsOf
pub mod Starting
pub mod Ruled
pub mod Building
pub mod Agreeing
pub mod Room
