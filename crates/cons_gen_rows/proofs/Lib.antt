pub mod Adding
mod MemberLaws
mod PatternExits
mod PatternRounds
pub mod Reading
mod ResultCounts
pub mod Runs
mod VariableLaws
