pub mod Applications
pub mod Scopes
pub mod Settled
pub mod States
pub mod World
pub mod steps
