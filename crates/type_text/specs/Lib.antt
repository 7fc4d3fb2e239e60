pub mod Adds
pub mod Starts
pub mod Texts
pub mod WordTypes
pub mod Words
