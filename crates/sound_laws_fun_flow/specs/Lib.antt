pub mod Claims
pub mod steps
