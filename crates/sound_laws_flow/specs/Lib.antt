pub mod Claims
pub mod Facts
pub mod steps
