pub mod Made
pub mod Rows
pub mod Spans
pub mod steps
