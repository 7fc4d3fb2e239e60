pub mod Rejected
pub mod steps
