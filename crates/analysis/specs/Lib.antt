pub mod Keeping
pub mod Reports
pub mod steps
