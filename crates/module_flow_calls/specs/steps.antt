pub mod FirstCalls
pub mod Gathering
pub mod Notes
