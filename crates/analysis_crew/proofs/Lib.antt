mod Fixing
pub mod Crossing
mod Laid
mod Listed
mod Loops
mod Outputs
pub mod Passed
mod Same
mod Works
