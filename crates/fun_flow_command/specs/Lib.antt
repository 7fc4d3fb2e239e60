pub mod Listed
pub mod Runs
