pub mod Codes
pub mod Matching
pub mod Pushing
