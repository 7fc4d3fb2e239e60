pub mod Faults
pub mod Lengths
pub mod Order
pub mod Rules
pub mod Spelling
pub mod Stored
pub mod steps
