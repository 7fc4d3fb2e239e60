pub mod Fixing
pub mod Making
