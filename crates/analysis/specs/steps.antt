pub mod Entering
pub mod Deciding
pub mod Making
pub mod Adding
pub mod Members
pub mod Keyed
pub mod Reporting
