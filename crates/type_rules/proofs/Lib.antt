pub mod Mistyping
