pub mod Shapes
pub mod ShortNames
pub mod Spelling
pub mod steps
