pub mod Callees
mod Closed
pub mod Inferred
