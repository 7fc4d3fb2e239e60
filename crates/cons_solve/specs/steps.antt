pub mod Alternatives
pub mod Passes
pub mod Positions
pub mod Plans
