pub mod Piecing
pub mod Telling
