pub mod Meant
pub mod Coded
pub mod Ruly
pub mod Within
pub mod Kinds
pub mod Small
