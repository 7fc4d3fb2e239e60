pub mod Chains
pub mod Elements
pub mod Inclusion
pub mod Kinds
pub mod Types
