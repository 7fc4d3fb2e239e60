pub mod Changes
pub mod Codes
pub mod Kept
pub mod Placing
pub mod Reading
pub mod Walking
