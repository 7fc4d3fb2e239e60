pub mod Words
pub mod Canonical
pub mod Tokens
pub mod Fits
pub mod steps
