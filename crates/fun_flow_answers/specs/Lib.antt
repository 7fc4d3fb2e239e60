pub mod Answers
pub mod Listed
pub mod Lines
pub mod Order
pub mod Worked
