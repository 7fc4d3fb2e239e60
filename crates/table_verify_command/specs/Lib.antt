pub mod Words
pub mod Lines
pub mod Outcome
pub mod Causes
pub mod Runs
pub mod steps
