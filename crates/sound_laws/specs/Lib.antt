pub mod Accepted
pub mod Assignments
pub mod Facts
pub mod Knowledge
pub mod Satisfied
pub mod Scopes
pub mod Summaries
