pub mod Typed
pub mod Listed
pub mod Runs
