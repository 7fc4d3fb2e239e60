pub mod Candidates
pub mod Named
pub mod Members
