mod Accepted
pub mod Applications
mod Bindings
pub mod Calls
mod Choices
pub mod Expressions
pub mod Extensions
pub mod Parts
pub mod Patterns
mod Plain
pub mod Scopes
pub mod Summaries
pub mod Traces
pub mod Types
pub mod Words
