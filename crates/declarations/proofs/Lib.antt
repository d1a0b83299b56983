pub mod ArraysBy
pub mod KnownBy
