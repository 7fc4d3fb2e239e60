pub mod Held
pub mod steps
