pub mod Flow
pub mod steps
