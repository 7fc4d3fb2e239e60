pub mod Forms
pub mod Inside
pub mod Silent
pub mod Walked
