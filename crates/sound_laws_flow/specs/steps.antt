pub mod Covered
pub mod Fine
pub mod Last
pub mod Named
pub mod Seen
pub mod Taken
