pub mod Words
pub mod Refusals
pub mod Sources
pub mod Reading
pub mod steps
