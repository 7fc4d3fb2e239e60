pub mod Bytes
pub mod Vocabulary
pub mod Sorts
pub mod Escapes
pub mod Spells
pub mod Lexed
pub mod Pieces
pub mod steps
