pub mod Positions
pub mod Plains
pub mod View
pub mod LowTrees
