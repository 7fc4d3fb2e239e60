pub mod Items
pub mod Chains
pub mod Patterns
pub mod Clauses
pub mod Definitions
