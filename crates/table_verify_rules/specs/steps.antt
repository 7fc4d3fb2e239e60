pub mod Asked
pub mod Components
pub mod Knowing
pub mod Leasts
pub mod Lesser
pub mod Listing
pub mod Verdict
