pub mod Joining
mod StageExamples
