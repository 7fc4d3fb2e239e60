pub mod Words
pub mod Script
pub mod Lines
pub mod Session
pub mod Causes
pub mod Runs
pub mod steps
