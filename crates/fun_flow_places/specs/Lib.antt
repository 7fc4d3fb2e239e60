pub mod Bindings
pub mod Naming
pub mod Tables
pub mod Arities
