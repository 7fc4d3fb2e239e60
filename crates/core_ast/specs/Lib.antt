pub mod Model
pub mod Tree
pub mod Named
pub mod Lengths
pub mod Notes
pub mod Compared
pub mod Same
pub mod steps
