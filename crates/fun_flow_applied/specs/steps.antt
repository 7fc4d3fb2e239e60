pub mod Applications
pub mod Calls
pub mod Entering
pub mod Texts
