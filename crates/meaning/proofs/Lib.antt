pub mod Least
pub mod Ranges
pub mod Running
pub mod Limits
pub mod Keeping
pub mod Advancing
pub mod Lasting
pub mod Transferred
pub mod Examples
pub mod FormatExamples
pub mod NestingExamples
pub mod RuleToldExamples
pub mod Stores
pub mod Maps
pub mod Elements
pub mod Groups
pub mod Readers
pub mod RuleExamples
mod ControlExamples
mod NameExamples
mod DataExamples
mod LoopExamples
mod TurnExamples
pub mod Doubled
pub mod Repeats
pub mod FirstBroken
pub mod Capped
