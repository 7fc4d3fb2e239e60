pub mod Graph
pub mod Lists
pub mod Numbering
pub mod Ready
pub mod steps
