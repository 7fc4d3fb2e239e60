pub mod Holds
pub mod steps
