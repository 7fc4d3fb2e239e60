pub mod Memos
pub mod Turns
