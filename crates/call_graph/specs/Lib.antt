pub mod Among
pub mod Targets
pub mod Calls
pub mod Outside
pub mod Tables
pub mod steps
