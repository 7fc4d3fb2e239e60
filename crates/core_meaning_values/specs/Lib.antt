pub mod Covered
pub mod Functions
