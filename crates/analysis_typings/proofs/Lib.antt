pub mod Known
pub mod Listed
mod SmallNames
